-- What contracts know of a shared store: whether a trail of its calls is kept. Other threads may change what its lock
-- protects at any time.
use Rattle.std.specs.Prelude.{Bool, true, false}
use Rattle.hlc_server.specs.declared.lock.StoreLock.{StoreLock, TheVariants.Audited, TheVariants.Plain}

pub record SharedView : Type 0 where
  pub audited : Bool

-- whether a trail is kept under the lock
abbrev pub keeps_trail : {L : Type 0} → StoreLock L → Bool
keeps_trail (Audited lock) = true
keeps_trail (Plain lock) = false

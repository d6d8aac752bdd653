-- What is promised about a whole schedule. The store is faithful to its history, which contains each event that asked
-- something of it; and at each moment what can be read is closed under happened-before.
use Rattle.std.specs.Prelude.{◌≡◌, ℕ, List, ◌++◌}
use Rattle.hlc_rows.specs.declared.row.Row.{Row}
use Rattle.hlc_core.specs.Headline.{IsMoment as IsStoreMoment, IsFaithful as IsStoreFaithful}
use Rattle.hlc_world_event.specs.Events.{Event}
use Rattle.hlc_world.specs.{declared.reply.Reply.Reply, Store.store_history, Floor.IsClosed}

-- at some moment of the schedule exactly these events had taken their turn
pub record IsMoment (schedule before : List (Event × Reply)) : Type 0 where
  pub later : List (Event × Reply)
  pub order : schedule ≡ later ++ before

-- each moment of the schedule is one of the store's history, so that history leaves out no read and no vacuum
abbrev pub MomentsAreReported : List (Event × Reply) → Type 0
MomentsAreReported schedule =
    (before : List (Event × Reply)) → IsMoment schedule before
    → IsStoreMoment (store_history schedule) (store_history before)

-- at each moment what can be read is closed under happened-before
abbrev pub ReadsAreClosed : ℕ → List (Event × Reply) → Type 0
ReadsAreClosed nodes schedule =
    (before : List (Event × Reply)) → IsMoment schedule before → IsClosed nodes before

-- All of this is true of a schedule of this many nodes, after which these rows are stored. The store's reads returned
-- the newest accepted values, no answer of a snapshot changed, and vacuums were the least and the cheapest, and left
-- the fewest rows.
pub record IsFaithful (nodes : ℕ) (schedule : List (Event × Reply)) (rows : List Row) : Type 0 where
  pub store : IsStoreFaithful nodes (store_history schedule) rows
  pub moments : MomentsAreReported schedule
  pub closed : ReadsAreClosed nodes schedule

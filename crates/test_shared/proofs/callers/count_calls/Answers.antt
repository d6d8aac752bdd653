-- Where the receipts settle there are as many as entries, and all are those of the one list.
use Rattle.std.proofs.Common.{◌≡◌, ℕ, length, List, [], ◌∷◌, ◌++◌, sym, ap, ◌∙◌, Result, Ok, Err, IfOk, map}
use Rattle.std.proofs.Common.{MatchResult, rules}
use Rattle.std.{specs.Result.IsOkAnd, proofs.lemmas.List.length-map, proofs.lemmas.List.append-nil}
use Rattle.hlc_server.specs.declared.{settle.Settled.Settled, settle.SettleFault.SettleFault, entry.Receipt.Receipt}
use Rattle.hlc_server.specs.Trails.{GuardedView}
use Rattle.hlc_server.specs.Settling.{Claim, claim, claims_of, IsSettlement}
use Rattle.test_shared.proofs.callers.count_calls.Goals as goal

-- as many entries as claims
counted : (lock : GuardedView) (claims : List Claim) (result : Result Settled SettleFault)
    → IsSettlement lock claims result → IfOk result (λ settled. settled.entries ≡ length claims)
counted lock claims (Ok settled) s = s.entries ∙ sym s.all.1
counted lock claims (Err fault) s = tt

-- as many claims as receipts
claimed : (by : ℕ) (receipts : List Receipt) → length (map (claim by) receipts ++ []) ≡ length receipts
claimed by receipts = ap length (append-nil (map (claim by) receipts)) ∙ length-map receipts (claim by)

-- the number of entries is returned
returned : {P : Settled → ℕ → Type 0} (settled : Result Settled SettleFault) (result : Result ℕ SettleFault)
    (claims many : ℕ)
    → IfOk settled (λ s. s.entries ≡ claims) → claims ≡ many
    → MatchResult settled (λ s. IsOkAnd result (P s)) (λ fault. result ≡ Err fault)
    → ((s : Settled) (calls : ℕ) → P s calls → calls ≡ s.entries)
    → IfOk result (λ calls. calls ≡ many)
returned (Ok settled) (Ok calls) claims many entries is maps gives = gives settled calls maps ∙ entries ∙ is
returned (Ok settled) (Err fault) claims many entries is maps gives = tt
returned (Err fault) (Ok calls) claims many entries is maps gives = absurd (cc)
returned (Err fault) (Err other) claims many entries is maps gives = tt

pub returns : goal.returns
returns g c =
    let one = c.in_ok-push.ensures.items
    ∙ ap (λ l. l ++ (c.args.caller, c.args.receipts) ∷ []) c.new-lists.ensures.items in
    returned c.settle.result c.map.result (length (claims_of c.push.new.self.items)) (length c.args.receipts.items)
    (counted c.settle.ensures.0 (claims_of c.push.new.self.items) c.settle.result c.settle.ensures.2)
    (ap (λ l. length (claims_of l)) one ∙ claimed c.args.caller.number c.args.receipts.items)
    c.map.ensures.cases
    (λ s calls post. Prim.search (rules, post))

-- A new core represents the past of its start, and a checkpoint that which begins with it.
use Rattle.std.proofs.Common.{◌≡◌, ℕ, zero, suc, ◌<◌, ◌≤◌, [], ◌∷◌, length, false, Some, None, refl, arith, replicate}
use Rattle.std.{specs.Prelude.slice_get, proofs.lemmas.List.length-replicate, proofs.lemmas.Option.slice_get-get_or}
use Rattle.std.proofs.lemmas.Bool.{cond-false, ne_eqb, le-ltb, or_from}
use Rattle.hlc_intake.specs.IntakeView.{IntakeView}
use Rattle.hlc_heads.specs.{Heads.a_link, declared.heads.TheConstants.MAX_INITIAL_NODES}
use Rattle.hlc_core.specs.{Past.Started, Past.Began, StoreView.StoreView, StoreView.Represents}
use Rattle.hlc_core.specs.{Calls.new_refusal, Checkpoint.IsCheckpoint}
use Rattle.hlc_vacuum.specs.Representing.{count_above}
use Rattle.hlc_core.proofs.{TakingLemmas.count-more, BeganLemmas.began-positive}

abbrev pub new_core : ℕ → StoreView
new_core many = record {
  initial_nodes = many;
  links = replicate many (a_link 0 0 false);
  top = 0;
  snapshots = [];
  last_id = 0;
  horizon = 0;
  rows = [];
}

get-replicate : (count k : ℕ) (link : IntakeView) → k < count → slice_get (replicate count link) k ≡ Some link
get-replicate zero k link lt = absurd (omega arith)
get-replicate (suc n) zero link lt = refl
get-replicate (suc n) (suc k) link lt = get-replicate n k link (omega arith)

-- a new core represents the past of its start
pub starts : (many : ℕ) → Represents (new_core many) (Started many ∷ [])
starts many =
    let l = length-replicate many (a_link 0 0 false) in record {
      legal = (refl, tt);
      initial_nodes = refl;
      links = record {
        many = omega (arith, l);
        each = λ n lt. get-replicate many n (a_link 0 0 false) (omega arith);
      };
      top = refl;
      snapshots = refl;
      last_id = refl;
      rows = record {
        row_set = tt;
        all_row_set = tt;
        within = λ row m. m;
        above = λ row m up. m;
        at_open = λ key stamp m. refl;
        from_horizon = λ key stamp le. refl;
      };
      stored = ([], refl, refl);
      horizon = refl;
    }

-- a checkpoint represents the past that begins with it
pub begins : (kept : StoreView) → IsCheckpoint kept → Represents kept (Began kept ∷ [])
begins kept is =
    let count : count_above 0 kept.rows ≡ length kept.rows =
    count-more 0 kept.rows (λ row m. began-positive kept row is m) in
    record {
      legal = (refl, tt, is);
      initial_nodes = refl;
      links = record {
        many = refl;
        each = λ n lt. slice_get-get_or kept.links n (a_link 0 0 false) lt;
      };
      top = refl;
      snapshots = refl;
      last_id = refl;
      rows = record {
        row_set = is.store.consistent.row_set;
        all_row_set = is.store.consistent.row_set;
        within = λ row m. m;
        above = λ row m up. m;
        at_open = λ key stamp m. refl;
        from_horizon = λ key stamp le. refl;
      };
      stored = ([], refl, omega arith);
      horizon = refl;
    }

-- no core of 1 to 64 nodes is refused
pub new_refusal-none : (many : ℕ) → 0 < many → many ≤ MAX_INITIAL_NODES → new_refusal many ≡ None
new_refusal-none many some few =
    cond-false _ _ _ (or_from _ _ (ne_eqb many 0 (λ e. omega arith)) (le-ltb MAX_INITIAL_NODES many few))

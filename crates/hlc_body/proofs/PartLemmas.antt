-- A checkpoint that is read is the checkpoint that was written, and a checkpoint that was written is read again.
use Rattle.std.proofs.Common.{◌≡◌, ℕ, refl, sym, ap, w16}
use Rattle.hlc_wire.proofs.FieldLemmas.{IsReader, IsField, last, field, via, wide16, two, eight, flag_field, key_field}
use Rattle.hlc_wire.proofs.FieldLemmas.{value_field}
use Rattle.hlc_checkpoint.specs.StoreView.{StoreView, greatest_head}
use Rattle.hlc_body.specs.Spelling.{link_bytes, snapshot_bytes, row_bytes, preamble_bytes, preamble_of, kept_of}
use Rattle.hlc_body.specs.Spelling.{checkpoint_bytes, LinkFits, SnapshotFits, RowFits, PreambleFits, CheckpointFits}
use Rattle.hlc_body.specs.Reading.{link_at, snapshot_at, row_at, preamble_at, checkpoint_at}
use Rattle.hlc_body.proofs.ListLemmas.{list_field, times_field}

link_field : IsField link_at link_bytes LinkFits
unfolding link_at
link_field =
    via
    (field _ eight (λ next. field _ eight (λ head.
    last (λ retired. record { next = next; head = head; retired = retired }) flag_field)))
    (λ t f. (record { next = f.0; head = f.1.0 }, refl))
    (λ l f. ((l.next, (l.head, l.retired)), (f.next, (f.head, tt)), refl))

snapshot_field : IsField snapshot_at snapshot_bytes SnapshotFits
unfolding snapshot_at
snapshot_field =
    via (field _ eight (λ id. last (λ stamp. record { id = id; stamp = stamp }) eight))
    (λ t f. (record { id = f.0; stamp = f.1 }, refl)) (λ s f. ((s.id, s.stamp), (f.id, f.stamp), refl))

pub row_field : IsField row_at row_bytes RowFits
unfolding row_at
row_field =
    via
    (field _ key_field (λ key. field _ eight (λ stamp. field _ two (λ node.
    last (λ value. record { key = key; stamp = stamp; node = node; value = value }) value_field))))
    (λ t f. (record { key = f.0; stamp = f.1.0; node = f.1.1.0; value = f.1.1.1 }, refl))
    (λ r f. ((r.key, (r.stamp, (r.node, r.value))), (f.key, (f.stamp, (f.node, f.value))), refl))

pub preamble_field : IsField preamble_at preamble_bytes PreambleFits
unfolding preamble_at
preamble_field =
    via
    (field _ two (λ initial_nodes. field _ (list_field w16 65536 wide16 link_field) (λ links.
    field _ (list_field w16 65536 wide16 snapshot_field) (λ snapshots. field _ eight (λ last_id.
    field _ eight (λ horizon. last (λ count. record {
      initial_nodes = initial_nodes;
      links = links;
      snapshots = snapshots;
      last_id = last_id;
      horizon = horizon;
      count = count;
    }) eight)))))) (λ t f. (
      record {
        initial_nodes = f.0;
        links = f.1.0;
        snapshots = f.1.1.0;
        last_id = f.1.1.1.0;
        horizon = f.1.1.1.1.0;
        count = f.1.1.1.1.1;
      },
      refl,
    )) (λ p f. (
      (p.initial_nodes, (p.links, (p.snapshots, (p.last_id, (p.horizon, p.count))))),
      (f.initial_nodes, (f.links, (f.snapshots, (f.last_id, (f.horizon, f.count))))),
      refl,
    ))

pub fits_before : (kept : StoreView) → CheckpointFits kept → PreambleFits (preamble_of kept)
fits_before kept fits = record {
  initial_nodes = fits.initial_nodes;
  links = fits.links;
  snapshots = fits.snapshots;
  last_id = fits.last_id;
  horizon = fits.horizon;
  count = fits.rows.0;
}

same_kept : (kept : StoreView) → kept.top ≡ greatest_head kept.links → kept_of (preamble_of kept) kept.rows ≡ kept
same_kept kept top =
    ap (λ (t : ℕ). record {
      initial_nodes = kept.initial_nodes;
      links = kept.links;
      top = t;
      snapshots = kept.snapshots;
      last_id = kept.last_id;
      horizon = kept.horizon;
      rows = kept.rows;
    }) (sym top)

checkpoint_field : IsField checkpoint_at checkpoint_bytes CheckpointFits
unfolding checkpoint_at
checkpoint_field =
    via (field _ preamble_field (λ p. last (kept_of p) (times_field row_field p.count))) (λ t f. (
      record {
        initial_nodes = f.0.initial_nodes;
        links = f.0.links;
        top = refl;
        snapshots = f.0.snapshots;
        last_id = f.0.last_id;
        horizon = f.0.horizon;
        rows = (rw f.1.0 f.0.count, f.1.1);
      },
      rw f.1.0 refl,
    )) (λ kept f. (
      (preamble_of kept, kept.rows),
      (fits_before kept f, (refl, f.rows.1)),
      same_kept kept f.top,
    ))

pub checkpoint_reader : IsReader checkpoint_at checkpoint_bytes CheckpointFits
checkpoint_reader = checkpoint_field.reads

use Rattle.std.proofs.Common.{◌++◌, List, ℕ, length, sym, ◌∙◌, ap}
use Rattle.mm_ranges.specs.Bytes.{read_from}
use Rattle.mm_ranges.specs.Overlay.{bytes_at}
use Rattle.mm_records.proofs.RoomLaws.{read_all}
use Rattle.mm_records.proofs.rooms.push_bytes.Goals as goal

pub returns-clause-ok : goal.returns-clause-ok
returns-clause-ok c =
    c.in_ok-extend_from_slice.ensures.items ∙ ap (λ (xs : List ℕ). c.args.out.now.items ++ xs) (c.deref.ensures.value
    ∙ (read_all c.read.«new».out c.in_ok-bytes.bytes.items (bytes_at c.args.draft.now.image c.args.file) c.in_ok-bytes.bytes.len c.args.len c.args.ofs
    (c.read.ensures ∙ ap (λ (xs : List ℕ). read_from c.args.ofs (length xs) (bytes_at c.args.draft.now.image c.args.file)) c.deref_mut.ensures.value)
    (ap (λ (xs : List ℕ). length xs) (sym c.deref_mut.ensures.value) ∙ c.deref_mut.ensures.len) c.in_ok-bytes.ensures.len c.requires))

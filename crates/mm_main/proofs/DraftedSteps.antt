-- Bytes of the data file that are written in a draft.
use Rattle.std.proofs.Common.{◌≡◌, ℕ, pos, negsuc, ◌+◌, ◌<◌, ◌≤◌, true, false, List, [], ◌∷◌, ◌++◌, length, take, drop, refl, sym, ap, ◌∙◌, arith, subst, Result}
use Rattle.std.specs.Prelude.{OnOk}
use Rattle.std.proofs.lemmas.List.{take-append-drop}
use Rattle.std.proofs.lemmas.Result.{on_ok_weaker}
use Rattle.mm_base.specs.Bytes.{part, overwritten}
use Rattle.mm_base.specs.Tables.{Cell, HasAll, AllInRange, tiles, joined}
use Rattle.mm_base.proofs.Parts.{length-overwritten, part_before, part_behind, part_front}
use Rattle.mm_bytes.specs.Files.{read_from}
use Rattle.mm_bytes.proofs.Agree.{same_overwritten}
use Rattle.mm_ranges.specs.Overlay.{laid}
use Rattle.mm_ranges.specs.Places.{Range, Covers}
use Rattle.mm_ranges.proofs.Overlaying.{bytes_at-laid}
use Rattle.mm_views.specs.State.{Drafting}
use Rattle.mm_frames.specs.RecHeader.{rec_header_of, rec_header_table}
use Rattle.mm_frames.specs.declared.rec_header.RecHeader.{RecHeader}
use Rattle.mm_frames.proofs.Again.{rec_header_is}
use Rattle.mm_main.specs.DataFile.{linked}
use Rattle.mm_main.specs.Drafted.{drafted, Keeps, IsLaid, LeadsOn}
use Rattle.mm_main.specs.Written.{SameBefore, SameBehind}
use Rattle.mm_main.proofs.FrameSteps.{has_put}

nothing : (payload : List ℕ) → length payload ≡ 0 → payload ≡ []
nothing [] none = refl
nothing (x ∷ payload) none = absurd (omega (arith, none))

-- no bytes change nothing
put_none : (at : ℕ) (payload file : List ℕ) → length payload ≡ 0 → file ≡ overwritten at payload file
unfolding overwritten
put_none at payload file none = sym (ap (λ (xs : List ℕ). take at file ++ (xs ++ drop (length xs) (drop at file))) (nothing payload none) ∙ take-append-drop at file)

-- what a write in a draft leaves
pub is_laid : (old new : Drafting) (at : ℕ) (bytes : List ℕ) → at + length bytes ≤ length (drafted old)
    → (0 < length bytes → new ≡ record old { image = laid 0 at bytes old.image; is_reserved = false }) → (length bytes ≡ 0 → new ≡ old) → IsLaid at bytes old new
is_laid old new at [] inside some none = subst (λ (d : Drafting). IsLaid at [] old d) (sym (none refl)) (record {
  written = put_none at [] (drafted old) refl;
  declared = refl;
  keeps = record { views = refl; made = refl; size = refl };
})
is_laid old new at (byte ∷ bytes) inside some none = subst (λ (d : Drafting). IsLaid at (byte ∷ bytes) old d) (sym (some (omega arith))) (record {
  written = written;
  declared = refl;
  keeps = record { views = refl; made = refl; size = ap length written ∙ length-overwritten at (byte ∷ bytes) (drafted old) inside };
})
  where
    written : drafted (record old { image = laid 0 at (byte ∷ bytes) old.image; is_reserved = false }) ≡ overwritten at (byte ∷ bytes) (drafted old)
    written = bytes_at-laid 0 at (byte ∷ bytes) old.image ∙ same_overwritten at (byte ∷ bytes) (drafted old) (omega (arith, inside))

-- a part of what is declared is declared
pub covers_part : (rs : List Range) (file at len from n : ℕ) → at ≤ from → from + n ≤ at + len → Covers rs file at len → Covers rs file from n
covers_part rs file at len from n behind before all = λ i low high. all i (omega (arith, behind, low)) (omega (arith, before, high))

-- what was kept twice is kept
pub keeps_both : (old mid new : Drafting) → Keeps old mid → Keeps mid new → Keeps old new
keeps_both old mid new a b = record { views = b.views ∙ a.views; made = b.made ∙ a.made; size = b.size ∙ a.size }

-- ---- of a frame that was put, where it was put

pub frame_put : (T E : Type 0) (r : Result T E) (n at : ℕ) (cells : List Cell) (frame old new : List ℕ) → tiles 0 cells n ≡ true → AllInRange cells → at + n ≤ length old → frame ≡ joined cells → OnOk r (new ≡ overwritten at frame old) → OnOk r (HasAll (part at n new) cells)
frame_put T E r n at cells frame old new tiled fits inside spelled put =
    on_ok_weaker r (λ is. has_put n at cells old new tiled fits inside (is ∙ ap (λ (bytes : List ℕ). overwritten at bytes old) spelled)) put

pub put_before : (T E : Type 0) (r : Result T E) (at : ℕ) (frame old new : List ℕ) → at ≤ length old → OnOk r (new ≡ overwritten at frame old) → OnOk r (SameBefore at old new)
put_before T E r at frame old new inside put = on_ok_weaker r (λ is. λ q m before. ap (part q m) is ∙ part_before q m at frame old before inside) put

pub put_behind : (T E : Type 0) (r : Result T E) (at end : ℕ) (frame old new : List ℕ) → at ≤ length old → at + length frame ≤ end → OnOk r (new ≡ overwritten at frame old) → OnOk r (SameBehind end old new)
put_behind T E r at end frame old new inside short put = on_ok_weaker r (λ is. λ q m behind. ap (part q m) is ∙ part_behind q m at frame old (omega (arith, short, behind)) inside) put

-- ---- a record's header that is read, and written so that it leads on

pub read_front : (at n : ℕ) (file : List ℕ) → part 0 n (read_from at n file) ≡ part at n file
unfolding part
read_front at n file = part_front n at n file (omega arith)

pub leads_on : (last next : ℕ) (r h : RecHeader) (old new : List ℕ) → r ≡ rec_header_of (part last 16 old) → h ≡ record r { next_ofs = pos next } → HasAll (part last 16 new) (rec_header_table h) → LeadsOn last next old new
leads_on last next r h old new read is has = λ len prev before.
    let same : r ≡ linked len prev (negsuc 0) = read ∙ rec_header_is (linked len prev (negsuc 0)) (part last 16 old) before in
    subst (λ (x : RecHeader). HasAll (part last 16 new) (rec_header_table x)) (is ∙ ap (λ (x : RecHeader). record x { next_ofs = pos next }) same) has

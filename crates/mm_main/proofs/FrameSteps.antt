-- A frame that was put stands in the file, and stays while other parts are written.
use Rattle.std.proofs.Common.{◌≡◌, ℕ, ℤ, pos, ◌+◌, ◌≤◌, true, List, length, refl, sym, ap, ◌∙◌, arith, subst, MatchBool, eqb}
use Rattle.std.proofs.lemmas.Bool.{false_from_ne_true, eqb-true}
use Rattle.mm_base.specs.Bytes.{part, overwritten}
use Rattle.mm_base.specs.Places.{place_made}
use Rattle.mm_base.specs.Tables.{Cell, HasAll, AllInRange, tiles, joined}
use Rattle.mm_base.specs.declared.place.DiskLoc.{DiskLoc}
use Rattle.mm_base.proofs.Parts.{part-overwritten, part_before}
use Rattle.mm_base.proofs.PlaceLaws.{made_again}
use Rattle.mm_base.proofs.TableLaws.{length-joined, has_all}
use Rattle.mm_main.specs.Room.{file_len}
use Rattle.mm_main.specs.DataFile.{IsRest, IsDeletedBlock}

-- a place of the file number 0
pub place_is_at : (p : DiskLoc) (ofs : ℕ) (z : ℤ) → p.file ≡ pos 0 → p.ofs ≡ z → z ≡ pos ofs → p ≡ place_made (pos 0) (pos ofs)
place_is_at p ofs z file at is = sym (made_again p) ∙ ap (λ f. place_made f p.ofs) file ∙ ap (λ o. place_made (pos 0) o) (at ∙ is)

-- what was put at an offset is had there
pub has_put : (n at : ℕ) (cells : List Cell) (old new : List ℕ) → tiles 0 cells n ≡ true → AllInRange cells → at + n ≤ length old → new ≡ overwritten at (joined cells) old → HasAll (part at n new) cells
has_put n at cells old new tiled fits inside is =
    subst (λ (bytes : List ℕ). HasAll bytes cells) (sym (ap (part at n) is ∙ part-overwritten at n (joined cells) old (omega arith) (length-joined n cells tiled fits))) (has_all n cells tiled fits)

-- behind a header, a payload was put
pub header_stays : (n at : ℕ) (cells : List Cell) (payload headed new : List ℕ) → HasAll (part at n headed) cells → at + n ≤ length headed → new ≡ overwritten (at + n) payload headed → HasAll (part at n new) cells
header_stays n at cells payload headed new has inside is =
    subst (λ (bytes : List ℕ). HasAll bytes cells) (sym (ap (part at n) is ∙ part_before at n (at + n) payload headed (omega arith) inside)) has

pub payload_stands : (at : ℕ) (payload old new : List ℕ) → at ≤ length old → new ≡ overwritten at payload old → part at (length payload) new ≡ payload
payload_stands at payload old new inside is = ap (part at (length payload)) is ∙ part-overwritten at (length payload) payload old inside refl

pub before_payload : (at q m : ℕ) (payload old new : List ℕ) → q + m ≤ at → at ≤ length old → new ≡ overwritten at payload old → part q m new ≡ part q m old
before_payload at q m payload old new before inside is = ap (part q m) is ∙ part_before q m at payload old before inside

-- what is left is a block, as long as anything is left
pub rest_is_block : (file : List ℕ) (at : ℕ) → (at ≡ file_len → ⊥) → IsDeletedBlock file at → IsRest file at
rest_is_block file at some block = subst (λ b. MatchBool b (Unit {0}) (IsDeletedBlock file at)) (sym (false_from_ne_true (eqb at file_len) (λ same. some (eqb-true at file_len same)))) block

pub rest_is_nothing : (file : List ℕ) (at : ℕ) → at ≡ file_len → IsRest file at
rest_is_nothing file at none = subst (λ (n : ℕ). IsRest file n) (sym none) tt

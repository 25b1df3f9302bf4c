-- Checking element after element, over plain variables.
use Rattle.std.proofs.Common.{◌≡◌, ℕ, ◌+◌, ◌<◌, ◌≤◌, true, List, length, Option, Some, None, Result, Ok, Err, refl, ap, ◌∙◌, arith}
use Rattle.std.specs.Prelude.{IfSome, IsTrue, is_ok, ◌↔◌}
use Rattle.std.specs.Str.{is_utf8}
use Rattle.mm_bson.specs.declared.fault.BsonFault.{BsonFault}
use Rattle.mm_bson.specs.declared.raw.Raw.{Raw}
use Rattle.mm_bson.specs.declared.raw.Raw.TheVariants as raw
use Rattle.std.specs.Borrow.{Bor}
use Rattle.mm_bson.specs.Tree.{Tree, min_key, null, int32, int64, string, binary, object_id, boolean, date, timestamp, max_key, Elements}
use Rattle.mm_bson.specs.Spelling.{IsDocument, spelling}
use Rattle.mm_bson.specs.Reading.{Reader, next_due, element_at, whole}
use Rattle.mm_bson.specs.Piece.{Piece, text, inside_at, head_at, piece, Judges}
use Rattle.mm_bson.proofs.Bytes.{IsBytes}
use Rattle.mm_bson.proofs.Takes.{whole_takes}
use Rattle.mm_bson.proofs.Again.{whole_again}
use Rattle.mm_bson.proofs.Parts.{element_parts}

pub first_small : (due : Option ℕ) (n : ℕ) → IfSome due (λ i. i ≡ 0) → IfSome due (λ i. i + n ≤ n)
first_small None n h = tt
first_small (Some i) n h = omega (arith, h)

pub next_small : (due : Option ℕ) (m n total : ℕ) → IfSome due (λ i. i + m ≤ total) → n < m → IfSome (next_due due) (λ i. i + n ≤ total)
next_small None m n total h lt = tt
next_small (Some i) m n total h lt = omega (arith, h)

module _ (read : Reader) (due : Option ℕ) (start end : ℕ) (bytes : List ℕ) where
  pub head_fails : (e : BsonFault) → head_at due start end bytes ≡ Err e → element_at read due start end bytes ≡ Err e
  head_fails e h = element_parts read due start end bytes ∙ rw h refl

  pub inside_fails : (name : List ℕ) (p : Piece) (after : List ℕ) (e : BsonFault) → head_at due start end bytes ≡ Ok ((name, p), after) → inside_at read end p (length after) ≡ Err e
      → element_at read due start end bytes ≡ Err e
  inside_fails name p after e h g = element_parts read due start end bytes ∙ rw (h, g) refl

  pub element_passes : (name : List ℕ) (p : Piece) (after : List ℕ) (t : Tree) → head_at due start end bytes ≡ Ok ((name, p), after) → inside_at read end p (length after) ≡ Ok t
      → element_at read due start end bytes ≡ Ok ((name, t), after)
  element_passes name p after t h g = element_parts read due start end bytes ∙ rw (h, g) refl

-- a text that is UTF-8 passes
pub text_passes : (read : Reader) (end : ℕ) (p : Piece) (s : List ℕ) (left : ℕ) → p ≡ text s → is_utf8 s ≡ true → (t : Tree) × (inside_at read end p left ≡ Ok t)
text_passes read end p s left is good = (string s, rw (is, good) refl)

-- a value that lies in no bytes of its own passes
pub plain_passes : (read : Reader) (end : ℕ) (v : Raw) (left : ℕ) → ((x : Bor (List ℕ)) → v ≡ raw.String x → ⊥) → ((x : Bor (List ℕ)) → v ≡ raw.Document x → ⊥) → ((x : Bor (List ℕ)) → v ≡ raw.Array x → ⊥)
    → (t : Tree) × (inside_at read end (piece v) left ≡ Ok t)
plain_passes read end raw.MinKey left s d a = (min_key, refl)
plain_passes read end raw.Null left s d a = (null, refl)
plain_passes read end raw.MaxKey left s d a = (max_key, refl)
plain_passes read end (raw.Int32 z) left s d a = (int32 z, refl)
plain_passes read end (raw.Int64 z) left s d a = (int64 z, refl)
plain_passes read end (raw.Date z) left s d a = (date z, refl)
plain_passes read end (raw.Boolean b) left s d a = (boolean b, refl)
plain_passes read end (raw.Timestamp n i) left s d a = (timestamp n i, refl)
plain_passes read end (raw.ObjectId b) left s d a = (object_id b.now, refl)
plain_passes read end (raw.Binary k b) left s d a = (binary k b.now, refl)
plain_passes read end (raw.String x) left s d a = absurd (s x refl)
plain_passes read end (raw.Document x) left s d a = absurd (d x refl)
plain_passes read end (raw.Array x) left s d a = absurd (a x refl)

pub judged : {A : Type 0} (r : Result A BsonFault) (bytes : List ℕ) → IsBytes bytes → Judges r (whole bytes) → IsTrue (is_ok r) ↔ ((es : Elements) × IsDocument es × (bytes ≡ spelling es))
judged (Ok x) bytes fits h = (λ t. let found = whole_takes bytes h.0 fits h.1 in (h.0, found.1, found.0), λ d. refl)
judged (Err e) bytes fits h = (λ t. absurd cc, λ d. let read = ap whole d.2 ∙ whole_again d.0 d.1 in absurd (differ (whole bytes) e d.0 h read))
  where
    differ : (r : Result Elements BsonFault) (e : BsonFault) (es : Elements) → r ≡ Err e → r ≡ Ok es → ⊥
    differ r e es p q = cc

-- The paths of a change: names parted by dots, its steps (MongoDB 2.6, dot notation).
use Rattle.std.specs.Prelude.{◌≡◌, ◌≢◌, ℕ, zero, suc, length, Bool, true, false, List, [], ◌∷◌, ◌&&◌, ◌||◌, ◌==◌, Option, Some, None, codes}
use Rattle.std.specs.declared.cmp.Ordering.{Ordering}
use Rattle.std.specs.declared.cmp.Ordering.TheVariants.{Less}
use Rattle.std.specs.Ordering.{nat_cmp}
use Rattle.std.specs.Cmp.Lexicographic.{slice_cmp}
use Rattle.std.specs.Borrow.{Bor}
use Rattle.std.specs.Str.{bytes_eq}
use Rattle.mm_bson.specs.Path.{names}

-- a name that begins with a dollar sign
abbrev pub has_dollar : List ℕ → Bool
has_dollar [] = false
has_dollar (b ∷ name) = b == 36

-- the steps of what is behind a path's first dot, where there is one
abbrev pub behind : Option (Bor (List ℕ)) → List (List ℕ)
behind None = []
behind (Some rest) = names rest.now

abbrev pub behind_len : Option (Bor (List ℕ)) → ℕ
behind_len None = 0
behind_len (Some rest) = suc (length rest.now)

abbrev pub is_empty : List ℕ → Bool
is_empty [] = true
is_empty (b ∷ name) = false

abbrev pub has_empty : List (List ℕ) → Bool
has_empty [] = false
has_empty (name ∷ others) = is_empty name || has_empty others

-- a path with an empty step
abbrev pub has_empty_step : List ℕ → Bool
has_empty_step path = has_empty (names path)

-- the steps of one path begin another one, or are all of it
abbrev pub leads : List (List ℕ) → List (List ℕ) → Bool
leads [] others = true
leads (name ∷ names) [] = false
leads (name ∷ names) (other ∷ others) = bytes_eq name other && leads names others

abbrev pub overlap : List ℕ → List ℕ → Bool
overlap a b = leads (names a) (names b) || leads (names b) (names a)

-- a path that equals one of these, or one of the two begins with the other
abbrev pub overlaps_any : List (List ℕ) → List ℕ → Bool
overlaps_any [] path = false
overlaps_any (earlier ∷ others) path = overlap earlier path || overlaps_any others path

abbrev pub id_name : List ℕ
id_name = codes "_id"

abbrev pub first_is_id : List (List ℕ) → Bool
first_is_id [] = false
first_is_id (name ∷ others) = bytes_eq name id_name

-- the path _id, or one below it
abbrev pub is_id : List ℕ → Bool
is_id path = first_is_id (names path)

-- ---- paths in the order of their steps

abbrev pub by_steps : List (List ℕ) → List (List ℕ) → Ordering
by_steps = slice_cmp (slice_cmp nat_cmp)

-- a path comes before another one, and doesn't lead to it
abbrev pub IsBefore : List ℕ → List ℕ → Type 0
IsBefore p q = (by_steps (names p) (names q) ≡ Less) × (leads (names p) (names q) ≡ false)

abbrev pub IsBeforeAll : List ℕ → List (List ℕ) → Type 0
IsBeforeAll p [] = Unit {0}
IsBeforeAll p (q ∷ qs) = IsBefore p q × IsBeforeAll p qs

abbrev pub AreInOrder : List (List ℕ) → Type 0
AreInOrder [] = Unit {0}
AreInOrder (p ∷ ps) = IsBeforeAll p ps × AreInOrder ps

abbrev pub AreNotBefore : List (List ℕ) → List ℕ → Type 0
AreNotBefore [] q = Unit {0}
AreNotBefore (p ∷ ps) q = (by_steps (names p) (names q) ≢ Less) × AreNotBefore ps q

-- so many of these come before a path, and the others don't
abbrev pub IsPlace : ℕ → List (List ℕ) → List ℕ → Type 0
IsPlace zero ps q = AreNotBefore ps q
IsPlace (suc k) [] q = ⊥
IsPlace (suc k) (p ∷ ps) q = (by_steps (names p) (names q) ≡ Less) × IsPlace k ps q

-- a path doesn't lead to the one at its place
abbrev pub IsFreeAt : List ℕ → ℕ → List (List ℕ) → Type 0
IsFreeAt q zero [] = Unit {0}
IsFreeAt q zero (p ∷ ps) = leads (names q) (names p) ≡ false
IsFreeAt q (suc k) [] = Unit {0}
IsFreeAt q (suc k) (p ∷ ps) = IsFreeAt q k ps

-- the one before its place doesn't lead to it
abbrev pub IsFreeBefore : List ℕ → ℕ → List (List ℕ) → Type 0
IsFreeBefore q zero ps = Unit {0}
IsFreeBefore q (suc k) [] = Unit {0}
IsFreeBefore q (suc zero) (p ∷ ps) = leads (names p) (names q) ≡ false
IsFreeBefore q (suc (suc k)) (p ∷ ps) = IsFreeBefore q (suc k) ps

abbrev pub IsFree : List ℕ → ℕ → List (List ℕ) → Type 0
IsFree q k ps = IsFreeAt q k ps × IsFreeBefore q k ps

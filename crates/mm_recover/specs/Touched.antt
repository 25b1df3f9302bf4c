-- The names of the files that entries touch.
use Rattle.std.specs.Prelude.{◌≡◌, ℕ, Bool, ◌||◌, List, String}
use Rattle.std.specs.declared.alloc.Global.{Global}
use Rattle.std.specs.List.{list_any}
use Rattle.std.specs.List.Sorted.{IsStrictlySortedBy}
use Rattle.std.specs.Ordering.{eq_by_cmp}
use Rattle.std.specs.BTreeSet.{BTreeSet, contains_text}
use Rattle.mm_outside.specs.Image.{name_cmp}
use Rattle.mm_crash.specs.Overlay.{Entry, is_own}

-- one of the entries is for this file
abbrev pub is_touched : List ℕ → List Entry → Bool
is_touched file entries = list_any (is_own file) entries

abbrev pub Names : Type 0
Names = BTreeSet (String Global)

-- the new names are the old ones and this one
abbrev pub AddsName : List ℕ → Names → Names → Type 0
AddsName name old new = (file : List ℕ) → contains_text new file ≡ (eq_by_cmp name_cmp file name || contains_text old file)

-- the new names are the old ones and those of the files that the entries touch
abbrev pub Adds : List Entry → Names → Names → Type 0
Adds entries old new = (file : List ℕ) → contains_text new file ≡ (is_touched file entries || contains_text old file)

-- these are the names of the files that the entries touch, each once, in byte order
pub record AreTouched (entries : List Entry) (names : List (List ℕ)) : Type 0 where
  pub all : (file : List ℕ) → list_any (eq_by_cmp name_cmp file) names ≡ is_touched file entries
  pub rising : IsStrictlySortedBy name_cmp names

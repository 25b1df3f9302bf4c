-- What reading puts behind the bytes of a buffer: what it found, as BSON spells it.
use Rattle.std.specs.Prelude.{◌≡◌, ℕ, ◌<◌, ◌≤◌, ◌^◌, List, ◌++◌, length, Result, Ok, Err}
use Rattle.mm_bson.specs.Tree.{Tree, tree_depth, Elements, depth, Values, values_depth}
use Rattle.mm_bson.specs.Spelling.{value_spelling, element_spelling, IsName, IsValue, AreElements, AreValues}
use Rattle.mm_notation.specs.declared.kind.Kind.{Kind}
use Rattle.mm_notation.specs.declared.stop.Stop.{Stop}
use Rattle.mm_notation.specs.Reading.{Read, Fails, value_of, object_at, array_at}

-- What reading found is spelled behind the old bytes, Good holds of it, and this text is left.
pub record Wrote {X : Type 0} (spelled : X → List ℕ) (Good : X → Type 0) (old new : List ℕ) (read : Read X) (rest : List ℕ) : Type 0 where
  pub found : X
  pub read_is : read ≡ Ok (found, rest)
  pub put : new ≡ old ++ spelled found
  pub good : Good found

-- What a function wrote that returned the text left, seen by view; or where reading fails, unless memory ran out.
abbrev pub Writes : {X Y : Type 0} → (X → List ℕ) → (X → Type 0) → List ℕ → List ℕ → (Y → List ℕ) → Result Y Stop → Read X → Type 0
Writes spelled Good old new view (Ok rest) read = Wrote spelled Good old new read (view rest)
Writes spelled Good old new view (Err e) read = Fails e read

-- a value of at most so many levels, whose length fits its i32
pub record IsSound (most : ℕ) (t : Tree) : Type 0 where
  pub value : IsValue t
  pub levels : tree_depth t ≤ most
  pub fits : length (value_spelling t) < 2 ^ 31

-- elements and values with at most so many levels inside
pub record AreSound (most : ℕ) (es : Elements) : Type 0 where
  pub elements : AreElements es
  pub levels : depth es ≤ most

pub record AreSoundValues (most : ℕ) (vs : Values) : Type 0 where
  pub values : AreValues vs
  pub levels : values_depth vs ≤ most

-- a name and its value
abbrev pub member_spelling : List ℕ × Tree → List ℕ
member_spelling m = element_spelling m.0 m.1

pub record IsSoundMember (most : ℕ) (m : List ℕ × Tree) : Type 0 where
  pub name : IsName m.0
  pub value : IsSound most m.1

-- a value of a kind that holds no other: with no level left, no object and no array is read
abbrev pub leaf_at : Kind → List ℕ → Read Tree
leaf_at = value_of (object_at 0) (array_at 0)

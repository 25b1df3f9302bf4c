-- The forms of names, as the code keeps them.
use Rattle.std.specs.Prelude.{◌≡◌, ℕ, true, List, [], ◌∷◌, ◌++◌, length, drop}
use Rattle.mm_check.specs.declared.forms.Forms.{Forms}
use Rattle.mm_check.specs.NodeQuestions.{free_name, indexes_name, begins}

-- what the names of the database d begin with, and the names of its own two nodes
pub record IsForms (d : List ℕ) (forms : Forms) : Type 0 where
  pub front : forms.front.items ≡ d ++ 46 ∷ []
  pub free : forms.free.items ≡ free_name d
  pub indexes : forms.indexes.items ≡ indexes_name d

-- the text begins so, and this stands behind
pub record HasFront (front text back : List ℕ) : Type 0 where
  pub begun : begins front text ≡ true
  pub is : back ≡ drop (length front) text

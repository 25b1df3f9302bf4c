-- A change by operators is its edits in reading order (MongoDB 2.6, update operators $set, $unset, $inc and $push); any other is a replacement.
use Rattle.std.specs.Prelude.{◌≡◌, ℕ, List, [], ◌∷◌, ◌++◌, Option, Some, None, if◌then◌else◌, codes}
use Rattle.std.specs.Str.{bytes_eq}
use Rattle.mm_update.specs.declared.step.Operator.{Operator}
use Rattle.mm_update.specs.declared.step.Operator.TheVariants.{Set, Unset, Inc, Push}
use Rattle.mm_bson.specs.Tree.{Tree, document, Elements, no_elements, element}
use Rattle.mm_update.specs.Paths.{has_dollar, overlaps_any}

abbrev pub operator_of : List ℕ → Option Operator
operator_of name =
    if bytes_eq name (codes "$set") then Some Set else (if bytes_eq name (codes "$unset") then Some Unset else (if bytes_eq name (codes "$inc") then Some Inc else (if bytes_eq name (codes "$push") then Some Push else None)))

-- an operator, the path it changes and the value given with it
pub record Edit : Type 0 where
  pub operator : Operator
  pub path : List ℕ
  pub operand : Tree

abbrev pub paths : List Edit → List (List ℕ)
paths [] = []
paths (e ∷ es) = e.path ∷ paths es

-- what overlaps one of these overlaps the path of an edit
abbrev pub Knows : List (List ℕ) → List Edit → Type 0
Knows earlier es = (path : List ℕ) → overlaps_any earlier path ≡ overlaps_any (paths es) path

abbrev pub edits_at : Operator → Elements → List Edit
edits_at operator no_elements = []
edits_at operator (element path t paths) = record { operator = operator; path = path; operand = t } ∷ edits_at operator paths

abbrev pub edits_in : Option Operator → Tree → List Edit
edits_in (Some operator) (document paths) = edits_at operator paths
edits_in _ _ = []

abbrev pub edits_of : Elements → List Edit
edits_of no_elements = []
edits_of (element name t es) = edits_in (operator_of name) t ++ edits_of es

pub data Plan : Type 0 where
  replacement : Elements → Plan
  edits : List Edit → Plan

-- what a change of this form says
abbrev pub plan : Elements → Plan
plan no_elements = replacement no_elements
plan (element name t es) = if has_dollar name then edits (edits_of (element name t es)) else replacement (element name t es)

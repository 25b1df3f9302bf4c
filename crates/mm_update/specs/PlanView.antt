-- What a change in memory says.
use Rattle.std.specs.Prelude.{◌≡◌, List}
use Rattle.std.proofs.Common.{ap}
use Rattle.std.specs.Coded.{Coded, coded_list}
use base.Stored.{Gv, gnum, gcons}
use Rattle.mm_bson.specs.Code.{elements_code}
use Rattle.mm_update.specs.declared.change.Body.{Body}
use Rattle.mm_update.specs.declared.change.Body.TheVariants.{Replacement, Edits}
use Rattle.mm_update.specs.Edit.{Edit, Plan, replacement, edits}
use Rattle.mm_update.specs.EditCode.{edit_code}
use Rattle.mm_update.specs.Laws.{AreApart}

abbrev pub plan_in : Body → Plan
plan_in (Replacement d) = replacement d
plan_in (Edits steps) = edits steps.items

-- the paths of edits are apart
abbrev pub IsApart : Body → Type 0
IsApart (Replacement d) = Unit {0}
IsApart (Edits steps) = AreApart steps.items

abbrev edits_code : Coded (List Edit)
edits_code = coded_list edit_code

abbrev pub plan_gv : Plan → Gv
plan_gv (replacement es) = gcons (gnum 0) (elements_code.code es)
plan_gv (edits es) = gcons (gnum 1) (edits_code.code es)

pub plan_one : (x y : Plan) → plan_gv x ≡ plan_gv y → x ≡ y
plan_one (replacement es) (replacement fs) e = ap replacement (elements_code.inj es fs cc)
plan_one (edits es) (edits fs) e = ap edits (edits_code.inj es fs cc)
plan_one _ _ e = cc

abbrev pub plan_code : Coded Plan
plan_code = record { code = plan_gv; inj = plan_one }

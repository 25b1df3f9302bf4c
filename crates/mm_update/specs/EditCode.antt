-- By what a proof tells two edits apart.
use Rattle.std.specs.Prelude.{◌≡◌}
use Rattle.std.proofs.Common.{refl}
use Rattle.std.specs.Coded.{Coded}
use base.Stored.{Gv, gnum, gcons}
use Rattle.mm_bson.specs.Code.{text_code, tree_gv, tree_one}
use Rattle.mm_update.specs.declared.step.Operator.{Operator}
use Rattle.mm_update.specs.declared.step.Operator.TheVariants.{Set, Unset, Inc, Push}
use Rattle.mm_update.specs.Edit.{Edit}

abbrev pub operator_gv : Operator → Gv
operator_gv Set = gnum 0
operator_gv Unset = gnum 1
operator_gv Inc = gnum 2
operator_gv Push = gnum 3

pub operator_one : (x y : Operator) → operator_gv x ≡ operator_gv y → x ≡ y
operator_one Set Set e = refl
operator_one Unset Unset e = refl
operator_one Inc Inc e = refl
operator_one Push Push e = refl
operator_one _ _ e = cc

abbrev pub edit_gv : Edit → Gv
edit_gv e = gcons (operator_gv e.operator) (gcons (text_code.code e.path) (tree_gv e.operand))

pub edit_one : (x y : Edit) → edit_gv x ≡ edit_gv y → x ≡ y
edit_one x y e =
    let operators : x.operator ≡ y.operator = operator_one x.operator y.operator cc in
    let paths : x.path ≡ y.path = text_code.inj x.path y.path cc in
    let operands : x.operand ≡ y.operand = tree_one x.operand y.operand cc in
    λ i. record { operator = operators i; path = paths i; operand = operands i }

abbrev pub edit_code : Coded Edit
edit_code = record { code = edit_gv; inj = edit_one }

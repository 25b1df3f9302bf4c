use Rattle.std.proofs.Common.{List}
use Rattle.mm_model.specs.declared.action.Action.{Action}
use Rattle.mm_script.specs.Grammar.{setting}
use Rattle.mm_script.proofs.ReadLaws.{is_script, one_script, refused_so, none_so}
use Rattle.mm_script.proofs.script.Script.read.Goals as goal

pub returns-in-Ok-clause-read : goal.returns-in-Ok-clause-read
returns-in-Ok-clause-read c = is_script (setting c.args.names.now c.args.stamp c.args.steps) c.args.bytes.now c.in-Ok.actions.items c.in-Ok.ensures

pub returns-in-Ok-clause-only : goal.returns-in-Ok-clause-only
returns-in-Ok-clause-only c = λ asked is. one_script (setting c.args.names.now c.args.stamp c.args.steps) c.args.bytes.now c.in-Ok.actions.items asked c.in-Ok.ensures is

pub returns-in-Err-clause-refused : goal.returns-in-Err-clause-refused
returns-in-Err-clause-refused c = refused_so (List Action) (setting c.args.names.now c.args.stamp c.args.steps) c.args.bytes.now c.in-Err.fault c.in-Err.ensures

pub returns-in-Err-clause-none : goal.returns-in-Err-clause-none
returns-in-Err-clause-none c = none_so (List Action) (setting c.args.names.now c.args.stamp c.args.steps) c.args.bytes.now c.in-Err.fault c.in-Err.ensures

use Rattle.std.proofs.Common.{◌<◌, length, map, string_bytes, arith, rules}
use Rattle.std.proofs.lemmas.List.{length-map}
use Rattle.mm_main.specs.Dumps.{AreOwn}
use Rattle.mm_main.proofs.DumpSteps.{dumps_data_file}
use Rattle.mm_main.proofs.dump.say_files.Goals as goal

pub returns-clause-dumps : goal.returns-clause-dumps
returns-clause-dumps g c =
    let some : 0 < length c.in_ok-names.names.items = search rules in
    let any : 0 < length (map string_bytes c.in_ok-names.names.items) = omega (arith, some, length-map c.in_ok-names.names.items string_bytes) in
    let own : AreOwn (map string_bytes c.in_ok-names.names.items) = rw c.deref.ensures.value at c.in_default.ensures in
    dumps_data_file _ _ (map string_bytes c.in_ok-names.names.items) _ c.say_data_file.result c.in_ok-names.ensures.told c.in_ok-names.ensures.names own any c.say_data_file.ensures.says

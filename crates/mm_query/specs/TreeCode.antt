-- By what a proof tells two values apart.
use Rattle.std.specs.Coded.{Coded}
use Rattle.mm_bson.specs.Tree.{Tree}
use Rattle.mm_bson.specs.Code.{tree_gv, tree_one}

abbrev pub tree_code : Coded Tree
tree_code = record { code = tree_gv; inj = tree_one }

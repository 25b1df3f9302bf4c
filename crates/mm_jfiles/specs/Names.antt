-- The names of the journal's files, and of the lsn file. Opaque, so that a clause names a file and not its bytes.
use Rattle.std.specs.Prelude.{ℕ, List, ◌++◌, codes}
use Rattle.std.specs.Fmt.{decimal}

unfoldable pub journal_name : ℕ → List ℕ
journal_name n = codes "journal/j._" ++ decimal n

unfoldable pub lsn_name : List ℕ
lsn_name = codes "journal/lsn"

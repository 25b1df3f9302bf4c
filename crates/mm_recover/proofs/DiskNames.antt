-- The names of a database's files.
use Rattle.std.proofs.Common.{◌≡◌, ℕ, zero, suc, Bool, true, false, cond, ◌<◌, List, [], ◌∷◌, ◌++◌, length, sym, ap, arith}
use Rattle.std.specs.Prelude.{◌&&◌, nat_lt, nat_le, ◌==◌, codes, IsTrue}
use Rattle.std.specs.Fmt.{decimal}
use Rattle.std.specs.List.{list_all}
use Rattle.std.specs.Str.{IsUtf8, IsAscii}
use Rattle.std.proofs.lemmas.Str.{IsUtf8-from_ascii}
use Rattle.std.proofs.lemmas.Bool.Decides.{nat_tests}
use Rattle.mm_ranges.specs.Limits.{ns_file}
use Rattle.mm_section.specs.Spells.{is_db_name, is_letter}
use Rattle.mm_section.proofs.Limits.{both}
use Rattle.mm_journal.specs.Real.{disk_name}

letter_small : (b : ℕ) → is_letter b ≡ true → b < 128
letter_small b is = grind (arith, nat_tests)

letters_ascii : (bytes : List ℕ) → list_all is_letter bytes ≡ true → IsAscii bytes
letters_ascii [] all i = omega arith
letters_ascii (b ∷ bytes) all zero = letter_small b (both (is_letter b) (list_all is_letter bytes) all).0
letters_ascii (b ∷ bytes) all (suc i) = letters_ascii bytes (both (is_letter b) (list_all is_letter bytes) all).1 i

pub name_utf8 : (name : List ℕ) → IsTrue (is_db_name name) → IsUtf8 name
name_utf8 name is = IsUtf8-from_ascii name (letters_ascii name (both (nat_le (length name) 16) (list_all is_letter name) (both (nat_lt 0 (length name)) (nat_le (length name) 16 && list_all is_letter name) is).1).1)

pub ns_name : (name : List ℕ) (file : ℕ) → file ≡ ns_file → name ++ codes ".ns" ≡ disk_name name file
ns_name name file is = let yes : (file == ns_file) ≡ true = grind (arith, nat_tests) in sym (ap (λ (b : Bool). cond b (name ++ codes ".ns") (name ++ codes "." ++ decimal file)) yes)

pub data_name : (name : List ℕ) (file : ℕ) → (file ≡ ns_file → ⊥) → name ++ codes "." ++ decimal file ≡ disk_name name file
data_name name file isnt = let no : (file == ns_file) ≡ false = grind (arith, nat_tests) in sym (ap (λ (b : Bool). cond b (name ++ codes ".ns") (name ++ codes "." ++ decimal file)) no)

use Rattle.std.proofs.Common.{◌≡◌, ◌+◌, ◌*◌, ◌≤◌, ◌^◌, length}
use Rattle.std.specs.Prelude.{◌↔◌}
use Rattle.mm_bson.specs.Tree.{append}
use Rattle.mm_bson.specs.Spelling.{spelling}
use Rattle.mm_bson.specs.Walk.{size}
use Rattle.mm_keys.specs.Specification.{fields}
use Rattle.mm_keys.specs.Key.{key, key_len, HasArray}
use Rattle.mm_keys.proofs.key.key_of_in_place.Given as goal

abbrev pub invariant-fields : goal.invariant-fields
invariant-fields l = record {
  arrays : HasArray l.doc l.rest ↔ HasArray l.doc l.spec;
  counted : l.len + key_len l.doc l.rest ≡ 5 + key_len l.doc l.spec;
  room : l.len + fields l.rest * 2 ^ 32 ≤ 2 ^ 40;
  spelled : l.len ≤ 1024 → length (spelling l.key) ≡ l.len;
  built : l.len ≤ 1024 → append l.key (key l.doc l.rest) ≡ key l.doc l.spec;
}

abbrev pub decreases-fields : goal.decreases-fields
decreases-fields l = size l.rest

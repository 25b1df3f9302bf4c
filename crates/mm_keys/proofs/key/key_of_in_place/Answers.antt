use Rattle.std.proofs.Common.{◌≡◌, length, [], refl, sym, ap, subst, ◌∙◌, arith}
use Rattle.mm_bson.specs.Tree.{append, no_elements, element}
use Rattle.mm_bson.specs.View.{tree_in}
use Rattle.mm_bson.specs.Spelling.{spelling, value_spelling}
use Rattle.mm_bson.proofs.Building.{spelling_len, spelling_len-push}
use Rattle.mm_bson.proofs.Loop.{append-none}
use Rattle.mm_keys.specs.Specification.{fields}
use Rattle.mm_keys.specs.Key.{key, keyed, key_len, HasArray, HasLongKey}
use Rattle.mm_keys.proofs.Lengths.{key_len-first, key_len-none, key_on, arrays_on, no_arrays}
use Rattle.mm_keys.proofs.key.key_of_in_place.Goals as goal

pub fields-init : goal.fields-init
fields-init c =
    let same : c.fields-rest.result ≡ c.args.spec.now = c.fields-rest.ensures ∙ c.as_ref.ensures ∙ c.document-document.ensures.document in
    let few = c.document-document.ensures.specification.few in
    rw (same, c.in_ok-key.ensures) (record { arrays = (λ h. h, λ h. h); counted = refl; room = omega (arith, few); spelled = λ h. spelling_len no_elements; built = λ h. refl })

pub fields-preserved : goal.fields-preserved
fields-preserved c =
    let d = c.args.doc.now in
    let inv = c.fields.invariant in
    let path = c.in-Some.field.name in
    let sign = tree_in c.in-Some.field.value in
    let rest = c.next.new.self in
    let value = tree_in c.keyed_at-value.result in
    let split : c.fields.rest ≡ element path sign rest = c.in-Some.ensures.some in
    let is : value ≡ keyed path d = c.keyed_at-value.ensures.value in
    let first = ap (key_len d) split ∙ key_len-first d path sign rest in
    let len = ap (λ t. length (value_spelling t)) is in
    record {
      arrays = arrays_on d path sign value c.fields.rest rest (HasArray d c.args.spec.now) split is c.is_array.ensures c.if-is_array.false inv.arrays;
      counted = omega (arith, first, len, inv.counted, c.spelled_len.ensures);
      room = omega (arith, ap fields split, inv.room, c.spelled_len.ensures, c.keyed_at-value.ensures.short);
      spelled = λ few. omega (arith, ap (λ es. length (spelling es)) (c.in_ok-put.ensures few), spelling_len-push c.fields.key [] value, inv.spelled (omega arith), c.spelled_len.ensures);
      built = λ few. key_on d c.fields.key c.fields.rest (key d c.args.spec.now) (inv.built (omega arith)) path sign value rest c.put.new.key split is (c.in_ok-put.ensures few);
    }

pub returns-then-len-gt-MAX_KEY_LEN-clause-long : goal.returns-then-len-gt-MAX_KEY_LEN-clause-long
returns-then-len-gt-MAX_KEY_LEN-clause-long c = λ len h.
    let d = c.args.doc.now in
    let none = c.in_default.ensures.none.0 in
    let same : c.fields.len ≡ len = cc in
    subst (HasLongKey d c.args.spec.now) same (record {
      no_array = no_arrays d c.fields.rest c.args.spec.now none c.fields.invariant.arrays;
      long = omega arith;
      counted = omega (arith, c.fields.invariant.counted, ap (key_len d) none, key_len-none d);
    })

pub returns-clause-ok : goal.returns-clause-ok
returns-clause-ok c =
    let d = c.args.doc.now in
    let none = c.in_default.ensures.none.0 in
    sym (append-none c.fields.key) ∙ ap (λ es. append c.fields.key (key d es)) (sym none) ∙ c.fields.invariant.built (omega arith)

pub returns-clause-has : goal.returns-clause-has
returns-clause-has c =
    let d = c.args.doc.now in
    let none = c.in_default.ensures.none.0 in
    record {
      no_array = no_arrays d c.fields.rest c.args.spec.now none c.fields.invariant.arrays;
      short = omega (arith, c.fields.invariant.counted, ap (key_len d) none, key_len-none d);
    }

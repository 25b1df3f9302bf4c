-- Words that are names.
use Rattle.std.proofs.Common.{◌≡◌, ℕ, ◌<◌, ◌≤◌, ◌||◌, ◌==◌, Bool, true, false, cond, List, length, Option, Some, None, Ok, Err, ap, ◌∙◌, arith}
use Rattle.std.specs.Prelude.{nat_lt}
use Rattle.std.proofs.lemmas.Bool.{and_parts, ltb-true, leb-true}
use Rattle.std.proofs.lemmas.List.Sums.{AllPass-from_list_all}
use Rattle.std.proofs.lemmas.List.Elements.{All-contains}
use Rattle.mm_base.specs.Names.{IsName}
use Rattle.mm_model.specs.WellFormed.{is_word, is_collection_name, is_index_name}
use Rattle.mm_script.specs.declared.fault.LineWhat.{LineWhat}
use Rattle.mm_script.specs.Grammar.{any}
use Rattle.mm_script.specs.Names.{is_new_index}
use Rattle.mm_script.specs.Reading.{next_word, tested, part_at}

any_then : (what : LineWhat) (test : List ℕ → Bool) (x : List ℕ × List ℕ) (o : Option (List ℕ × List ℕ)) → tested what any o ≡ Ok x → tested what test o ≡ tested what test (Some x)
any_then what test x None is = absurd (cc)
any_then what test x (Some w) is = let same : w ≡ x = cc in ap (λ v. tested what test (Some v)) same

-- the next word, where it passes a test
pub part_taken : (what : LineWhat) (test : List ℕ → Bool) (text : List ℕ) (x : List ℕ × List ℕ) → part_at what any text ≡ Ok x → test x.0 ≡ true → part_at what test text ≡ Ok x
unfolding part_at
part_taken what test text x is passes = any_then what test x (next_word text) is ∙ ap (λ b. cond b (Ok x) (Err what)) passes

-- where it doesn't
pub part_refused : (what : LineWhat) (test : List ℕ → Bool) (text : List ℕ) (x : List ℕ × List ℕ) → part_at what any text ≡ Ok x → test x.0 ≡ false → part_at what test text ≡ Err what
unfolding part_at
part_refused what test text x is passes = any_then what test x (next_word text) is ∙ ap (λ b. cond b (Ok x) (Err what)) passes

some_of : (name : List ℕ) → nat_lt 0 (length name) ≡ true → 0 < length name
some_of name h = ltb-true 0 (length name) h

pub collection_is_name : (name : List ℕ) → is_collection_name name ≡ true → IsName name
collection_is_name name h =
    let last = and_parts _ _ h in
    let bytes = and_parts _ _ last.0 in
    let sizes = and_parts _ _ bytes.0 in
    let short : length name ≤ 60 = leb-true (length name) 60 sizes.1 in
    record {
      some = some_of name sizes.0;
      short = omega arith;
      no_zero = λ inside. absurd (cc (All-contains (λ b. (is_word b || (b == 46)) ≡ true) name 0 (AllPass-from_list_all (λ b. is_word b || (b == 46)) name bytes.1) inside));
    }

pub index_is_name : (name : List ℕ) → is_index_name name ≡ true → IsName name
index_is_name name h =
    let bytes = and_parts _ _ h in
    let sizes = and_parts _ _ bytes.0 in
    let short : length name ≤ 40 = leb-true (length name) 40 sizes.1 in
    record {
      some = some_of name sizes.0;
      short = omega arith;
      no_zero = λ inside. absurd (cc (All-contains (λ b. is_word b ≡ true) name 0 (AllPass-from_list_all is_word name bytes.1) inside));
    }

pub new_index_is_name : (name : List ℕ) → is_new_index name ≡ true → IsName name
new_index_is_name name h = index_is_name name (and_parts _ _ h).0

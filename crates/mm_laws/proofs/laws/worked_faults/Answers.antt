use Rattle.std.proofs.Common.{◌≡◌, true, false, [], ◌∷◌, refl}
use Rattle.std.specs.Str as str
use Rattle.mm_bson.specs.Reading as read
use Rattle.mm_laws.specs.Examples.{NoType, OneMore, NoText, OtherText}
use Rattle.mm_laws.proofs.laws.worked_faults.Goals as goal

no_type : NoType
unfolding read.whole read.nested_at read.elements_at read.element_at
no_type = refl

one_more : OneMore
unfolding read.whole
one_more = refl

name_good : str.is_utf8 (97 ∷ []) ≡ true
unfolding str.is_utf8 str.chars lib.Utf8.encode
name_good = refl

text_bad : str.is_utf8 (0xc3 ∷ 0x28 ∷ []) ≡ false
unfolding str.is_utf8 str.chars lib.Utf8.encode
text_bad = refl

text_good : str.is_utf8 (0xc3 ∷ 0xa9 ∷ []) ≡ true
unfolding str.is_utf8 str.chars lib.Utf8.encode
text_good = refl

no_text : NoText
unfolding read.whole read.nested_at read.elements_at read.element_at read.name_at read.value_at read.string_at
no_text = rw (name_good, text_bad) refl

other_text : OtherText
unfolding read.whole read.nested_at read.elements_at read.element_at read.name_at read.value_at read.string_at
other_text = rw (name_good, text_good) refl

pub returns-clause-kind : goal.returns-clause-kind
returns-clause-kind c = no_type

pub returns-clause-longer : goal.returns-clause-longer
returns-clause-longer c = one_more

pub returns-clause-text : goal.returns-clause-text
returns-clause-text c = no_text

pub returns-clause-other : goal.returns-clause-other
returns-clause-other c = other_text

-- Reading a script from left to right: each step is given the text from its place on, and answers a value and the text behind it, or what the
-- text isn't there. That this is the grammar is proved of it, so nothing but the reader rests on this page.
use Rattle.std.specs.Prelude.{◌≡◌, ℕ, ◌+◌, ◌==◌, ◌&&◌, Bool, true, false, List, [], ◌∷◌, length, take, drop, codes, Option, Some, None, Result, Ok, Err, nat_lt, nat_le, pos, negsuc, if◌then◌else◌}
use Rattle.std.specs.List.{cons_option}
use Rattle.std.specs.Str.{bytes_eq, is_utf8}
use Rattle.hex.specs.Hex.{decode_of}
use Rattle.mm_bson.specs.Tree.{Tree, int32, Elements, no_elements, element}
use Rattle.mm_bson.specs.Path.{find}
use Rattle.mm_bson.specs.Reading.{whole}
use Rattle.mm_bson.specs.Spelling.{spelling}
use Rattle.mm_keys.specs.Specification.{fields}
use Rattle.mm_notation.specs.Reading.{document_at as notation_of}
use Rattle.mm_model.specs.declared.action.Action.{Action}
use Rattle.mm_script.specs.declared.fault.LineWhat.{LineWhat}
use Rattle.mm_script.specs.declared.fault.LineWhat.TheVariants.{Utf8, Document, Specification, Word, TooManyLines, TooLong}
use Rattle.mm_script.specs.declared.stop.Stop.{Stop}
use Rattle.mm_script.specs.declared.stop.Stop.TheVariants.{What, NoMemory}
use Rattle.mm_script.specs.declared.fault.ScriptFault.{ScriptFault}
use Rattle.mm_script.specs.declared.fault.ScriptFault.TheVariants as fault
use Rattle.mm_script.specs.Words.{is_space}
use Rattle.mm_script.specs.Form.{Form, ends, word, flag, document, specification, wrong}
use Rattle.mm_script.specs.Grammar.{Setting, line_form}
use Rattle.mm_script.specs.Lines.{is_skipped}
use Rattle.mm_script.specs.Script.{most_lines, most_bytes}

-- ---- steps, and what a function gives

-- the first step that fails decides
infixl 10 ◌>>=◌
abbrev pub ◌>>=◌ : {A B E : Type 0} → Result A E → (A → Result B E) → Result B E
(Ok x) >>= f = f x
(Err r) >>= f = Err r

-- What a function returned, seen by view, is what reading gives, unless memory ran out.
abbrev pub Fails : {Y : Type 0} → Stop → Result Y LineWhat → Type 0
Fails NoMemory read = Unit {0}
Fails (What v) read = read ≡ Err v

abbrev pub Gives : {X Y : Type 0} → (X → Y) → Result X Stop → Result Y LineWhat → Type 0
Gives view (Ok x) read = read ≡ Ok (view x)
Gives view (Err e) read = Fails e read

-- ---- words

abbrev pub begins_space : List ℕ → Bool
begins_space [] = false
begins_space (b ∷ text) = is_space b

-- the text behind its spaces
unfoldable pub skip : List ℕ → List ℕ
skip [] = []
skip (b ∷ text) = if is_space b then skip text else b ∷ text

-- the bytes before the first space, and the text from there on
unfoldable pub front : List ℕ → List ℕ
front [] = []
front (b ∷ text) = if is_space b then [] else b ∷ front text

unfoldable pub behind : List ℕ → List ℕ
behind [] = []
behind (b ∷ text) = if is_space b then b ∷ text else behind text

abbrev pub word_here : List ℕ → Option (List ℕ × List ℕ)
word_here [] = None
word_here (b ∷ text) = Some (front (b ∷ text), behind (b ∷ text))

-- the next word, and the text behind it
unfoldable pub next_word : List ℕ → Option (List ℕ × List ℕ)
next_word text = if begins_space text then word_here (skip text) else None

abbrev pub tested : LineWhat → (List ℕ → Bool) → Option (List ℕ × List ℕ) → Result (List ℕ × List ℕ) LineWhat
tested what test None = Err what
tested what test (Some w) = if test w.0 then Ok w else Err what

-- the next word, which passes the test
unfoldable pub part_at : LineWhat → (List ℕ → Bool) → List ℕ → Result (List ℕ × List ℕ) LineWhat
part_at what test text = tested what test (next_word text)

abbrev pub flagged : List ℕ → List ℕ → Option (List ℕ × List ℕ) → Bool × List ℕ
flagged due text None = (false, text)
flagged due text (Some w) = if bytes_eq w.0 due then (true, w.1) else (false, text)

-- whether the next word is this, and the text behind it
unfoldable pub flag_at : List ℕ → List ℕ → Bool × List ℕ
flag_at due text = flagged due text (next_word text)

abbrev pub is_empty : List ℕ → Bool
is_empty [] = true
is_empty (b ∷ text) = false

-- the end of the line
unfoldable pub end_at : List ℕ → Result (Unit {0}) LineWhat
end_at text = if is_empty (skip text) then Ok tt else Err Word

-- ---- documents

abbrev pub or_document : {A E : Type 0} → Result A E → Result A LineWhat
or_document (Ok x) = Ok x
or_document (Err e) = Err Document

unfoldable pub notation_here : List ℕ → Result (Elements × List ℕ) LineWhat
notation_here text = or_document (notation_of text)

-- a document in notation
unfoldable pub notation_at : List ℕ → Result (Elements × List ℕ) LineWhat
notation_at text = if begins_space text then notation_here (skip text) else Err Document

-- the document that digits spell
unfoldable pub hex_of : List ℕ → Result Elements LineWhat
hex_of digits = or_document (decode_of digits) >>= λ bytes. or_document (whole bytes)

unfoldable pub hex_here : List ℕ → Result (Elements × List ℕ) LineWhat
hex_here text = hex_of (drop 4 (front text)) >>= λ d. Ok (d, behind text)

unfoldable pub document_here : List ℕ → Result (Elements × List ℕ) LineWhat
document_here text = if bytes_eq (take 4 text) (codes "hex:") then hex_here text else notation_here text

-- a document in notation or in hex
unfoldable pub document_at : List ℕ → Result (Elements × List ℕ) LineWhat
document_at text = if begins_space text then document_here (skip text) else Err Document

-- ---- specifications

abbrev pub is_sign : Tree → Bool
is_sign (int32 (pos n)) = n == 1
is_sign (int32 (negsuc n)) = n == 0
is_sign _ = false

abbrev pub are_signed : Elements → Bool
are_signed no_elements = true
are_signed (element path t es) = is_sign t && are_signed es

abbrev pub is_none : Option Tree → Bool
is_none None = true
is_none (Some t) = false

abbrev pub are_different : Elements → Bool
are_different no_elements = true
are_different (element path t es) = is_none (find path es) && are_different es

unfoldable pub is_short_specification : Elements → Bool
is_short_specification d = (nat_le 1 (fields d) && nat_le (fields d) 31) && ((are_signed d && are_different d) && nat_le (length (spelling d)) 65536)

-- a specification in notation
unfoldable pub specification_at : List ℕ → Result (Elements × List ℕ) LineWhat
specification_at text = notation_at text >>= λ d. if is_short_specification d.0 then Ok d else Err Specification

-- ---- lines

abbrev pub read : Form → List ℕ → Result Action LineWhat
read (ends a) text = end_at text >>= λ e. Ok a
read (word what test next) text = part_at what test text >>= λ w. read (next w.0) w.1
read (flag due next) text = read (next (flag_at due text).0) (flag_at due text).1
read (document next) text = document_at text >>= λ d. read (next d.0) d.1
read (specification next) text = specification_at text >>= λ d. read (next d.0) d.1
read (wrong what) text = Err what

unfoldable pub line_at : Setting → ℕ → List ℕ → Result Action LineWhat
line_at s n line = if is_utf8 line then read (line_form s n) (0x20 ∷ line) else Err Utf8

abbrev pub some_of : Action → Result (Option Action) LineWhat
some_of a = Ok (Some a)

-- a line behind so many bytes of so many in all
unfoldable pub judged : Setting → ℕ → ℕ → ℕ → List ℕ → Result (Option Action) LineWhat
judged s total at n line =
    if nat_lt most_lines n then Err TooManyLines
    else (if nat_lt most_bytes total && nat_lt most_bytes (at + length line + 1) then Err TooLong
    else (if is_skipped line then Ok None else (line_at s n line >>= some_of)))

abbrev pub numbered : {A : Type 0} → ℕ → Result A LineWhat → Result A (ℕ × LineWhat)
numbered n (Ok x) = Ok x
numbered n (Err what) = Err (n, what)

-- the lines from this number on
abbrev pub script_at : Setting → ℕ → ℕ → ℕ → List (List ℕ) → Result (List Action) (ℕ × LineWhat)
script_at s total at n [] = Ok []
script_at s total at n (line ∷ lines) =
    numbered n (judged s total at n line) >>= λ a. script_at s total (at + length line + 1) (n + 1) lines >>= λ others. Ok (cons_option a others)

-- What the reader of a script returned is what reading gives, unless memory ran out.
abbrev pub Refuses : ScriptFault → Result (List Action) (ℕ × LineWhat) → Type 0
Refuses fault.NoMemory read = Unit {0}
Refuses (fault.Line number what) read = read ≡ Err (number, what)

abbrev pub Reads : {X : Type 0} → (X → List Action) → Result X ScriptFault → Result (List Action) (ℕ × LineWhat) → Type 0
Reads view (Ok x) read = read ≡ Ok (view x)
Reads view (Err e) read = Refuses e read

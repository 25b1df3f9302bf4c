-- The words that are printed for what a line isn't.
use Rattle.std.specs.Prelude.{ℕ, List, codes}
use Rattle.mm_script.specs.declared.fault.LineWhat.{LineWhat}
use Rattle.mm_script.specs.declared.fault.LineWhat.TheVariants.{Utf8, Session, Database, Verb, Collection, Index, Document, Specification, Word, Step, TooManyLines, TooLong}

abbrev pub what_text : LineWhat → List ℕ
what_text Utf8 = codes "utf-8"
what_text Session = codes "session"
what_text Database = codes "database"
what_text Verb = codes "verb"
what_text Collection = codes "collection"
what_text Index = codes "index"
what_text Document = codes "document"
what_text Specification = codes "specification"
what_text Word = codes "word"
what_text Step = codes "step"
what_text TooManyLines = codes "too many lines"
what_text TooLong = codes "too long"

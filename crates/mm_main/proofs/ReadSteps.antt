-- What is read of a data file is what it was written with.
use Rattle.std.proofs.Common.{◌≡◌, ℕ, zero, suc, ℤ, pos, negsuc, Bool, true, false, cond, ltb, List, [], ◌∷◌, length, map, refl, sym, ap, ◌∙◌, arith, subst, append-nil}
use Rattle.mm_base.specs.declared.place.DiskLoc.{DiskLoc}
use Rattle.mm_frames.specs.RecHeader.{rec_header_of}
use Rattle.mm_bson.specs.Tree.{Elements}
use Rattle.mm_bson.specs.Spelling.{spelling}
use Rattle.mm_main.specs.declared.chain.Link.{Link}
use Rattle.mm_main.specs.declared.chain.Link.TheVariants.{End, To, Outside}
use Rattle.mm_main.specs.declared.finding.What.{What}
use Rattle.mm_main.specs.declared.finding.What.TheVariants.{File, Extent, Chain, Tiling, Document}
use Rattle.mm_main.specs.Contents.{AreDocuments, HoldsDocs, IsRead, Tells, Shows, doc_lines, full_name}
use Rattle.mm_main.specs.declared.reading.Contents.{Contents}
use Rattle.std.specs.Prelude.{Option, Some, None}
use Rattle.mm_main.specs.DataFile.{at_file_0, link_to, last_from, HasExtentHeader, IsRecord, IsRest, AreRecords, Fit}
use Rattle.mm_main.specs.Findings.{to_offset, link_of, link_in, place_link, IsLinked, Leads, IsChained, last_or, IsLaid, next_at, offsets, end_of, AreLaid, IsTiled, FailsAt, FailsNext, Breaks, IsFinding}
use Rattle.mm_main.specs.Room.{file_len, first_at, block_len}
use Rattle.mm_main.proofs.FrameSteps.{place_is_at}

-- ---- links by the offsets to which they lead

to_cases : (b : Bool) (ofs at : ℕ) → cond b (To ofs) Outside ≡ To at → ofs ≡ at
to_cases true ofs at is = cc
to_cases false ofs at is = absurd (cc)

offset_to : (z : ℤ) (at : ℕ) → to_offset z ≡ To at → z ≡ pos at
offset_to (pos ofs) at is = ap pos (to_cases (ltb ofs file_len) ofs at is)
offset_to (negsuc n) at is = absurd (cc)

link_to_is : (z : ℤ) (at : ℕ) → link_of z ≡ To at → z ≡ pos at
link_to_is (pos ofs) at is = offset_to (pos ofs) at is
link_to_is (negsuc zero) at is = absurd (cc)
link_to_is (negsuc (suc n)) at is = absurd (cc)

no_end : (b : Bool) (ofs : ℕ) → cond b (To ofs) Outside ≡ End → ⊥
no_end true ofs is = cc
no_end false ofs is = cc

link_end_is : (z : ℤ) → link_of z ≡ End → z ≡ negsuc 0
link_end_is (pos ofs) is = absurd (no_end (ltb ofs file_len) ofs is)
link_end_is (negsuc zero) is = refl
link_end_is (negsuc (suc n)) is = absurd (cc)

in_to : (f z : ℤ) (at : ℕ) → link_in f z ≡ To at → (f ≡ pos 0) × (z ≡ pos at)
in_to (pos zero) z at is = (refl, offset_to z at is)
in_to (pos (suc n)) z at is = absurd (cc)
in_to (negsuc zero) z at is = absurd (cc)
in_to (negsuc (suc n)) z at is = absurd (cc)

-- the place of a first record
pub first_is : (first : DiskLoc) (at : ℕ) → place_link first ≡ To at → first ≡ at_file_0 (pos at)
first_is first at is = let numbers = in_to first.file first.ofs at is in place_is_at first at first.ofs numbers.0 refl numbers.1

-- ---- records that are linked and laid

next_is : (file : List ℕ) (prev z : ℤ) (at : ℕ) (docs : List Elements) → Leads file prev (link_of z) (offsets at docs) End → z ≡ link_to at (map spelling docs)
next_is file prev z at [] leads = link_end_is z leads
next_is file prev z at (doc ∷ docs) leads = link_to_is z at leads.0

record_is : (file : List ℕ) (prev next : ℤ) (at : ℕ) (doc : Elements) → (here : IsLinked file prev at) → here.next ≡ next → IsLaid file at doc → IsRecord file at (block_len at (length (spelling doc))) prev next (spelling doc)
unfolding rec_header_of
record_is file prev next at doc here is laid = record {
  header = (laid.due.long, (here.header.1.0, (here.header.1.1.0 ∙ is, (here.header.1.1.1.0, tt))));
  holds = laid.begins.bytes;
}

pub records_are : (file : List ℕ) (prev : ℤ) (link : Link) (at : ℕ) (docs : List Elements) → Leads file prev link (offsets at docs) End → AreLaid file at docs → IsRest file (end_of at docs) → AreRecords file at prev (map spelling docs)
records_are file prev link at [] leads laid rest = rest
records_are file prev link at (doc ∷ docs) leads laid rest = (
  record_is file prev _ at doc leads.1 (next_is file (pos at) leads.1.next (next_at at doc) docs leads.2) laid.0,
  records_are file (pos at) (link_of leads.1.next) (next_at at doc) docs leads.2 laid.1 rest,
)

pub fit_of : (file : List ℕ) (at : ℕ) (docs : List Elements) → AreLaid file at docs → Fit at (map spelling docs)
fit_of file at [] laid = tt
fit_of file at (doc ∷ docs) laid = (laid.0.due.room, fit_of file (next_at at doc) docs laid.1)

pub documents_of : (file : List ℕ) (at : ℕ) (docs : List Elements) → AreLaid file at docs → AreDocuments docs
documents_of file at [] laid = tt
documents_of file at (doc ∷ docs) laid = (laid.0.begins.document, documents_of file (next_at at doc) docs laid.1)

pub last_is : (at prev : ℕ) (docs : List Elements) → last_from at (pos prev) (map spelling docs) ≡ pos (last_or prev (offsets at docs))
last_is at prev [] = refl
last_is at prev (doc ∷ docs) = last_is (next_at at doc) at docs

-- ---- the whole file

holds_some : (file collection : List ℕ) (doc : Elements) (docs : List Elements) → IsChained file collection (offsets first_at (doc ∷ docs)) → AreLaid file first_at (doc ∷ docs) → IsRest file (end_of first_at (doc ∷ docs)) → HoldsDocs collection (doc ∷ docs) file
holds_some file collection doc docs chained laid rest =
    let first = first_is chained.first first_at chained.followed.leads.0 in
    let last = chained.last_is ∙ ap at_file_0 (sym (last_is (next_at first_at doc) first_at docs)) in
    let extent : HasExtentHeader file collection (last_from first_at (negsuc 0) (map spelling (doc ∷ docs))) = (
      chained.opened.extent.0,
      (
        chained.opened.extent.1.0,
        (
          chained.opened.extent.1.1.0,
          (
            chained.opened.extent.1.1.1.0,
            (
              chained.opened.extent.1.1.1.1.0,
              (
                chained.opened.extent.1.1.1.1.1.0,
                (chained.opened.extent.1.1.1.1.1.1.0 ∙ first, (chained.opened.extent.1.1.1.1.1.1.1.0 ∙ last, tt)),
              ),
            ),
          ),
        ),
      ),
    ) in
    record {
      written = record {
        size = chained.opened.size;
        fit = fit_of file first_at (doc ∷ docs) laid;
        holds = (chained.opened.header, extent, records_are file (negsuc 0) (place_link chained.first) first_at (doc ∷ docs) chained.followed.leads laid rest);
      };
      documents = documents_of file first_at (doc ∷ docs) laid;
      name = λ some. chained.opened.name;
    }

-- a file that is chained and tiled holds its documents
pub holds_read : (file collection : List ℕ) (ats : List ℕ) (docs : List Elements) → IsChained file collection ats → IsTiled file docs ats → HoldsDocs collection docs file
holds_read file collection ats [] chained tiled = absurd (omega (arith, tiled.some))
holds_read file collection ats (doc ∷ docs) chained tiled =
    holds_some file collection doc docs (subst (λ (xs : List ℕ). IsChained file collection xs) (tiled.laid.places ∙ append-nil (offsets first_at (doc ∷ docs))) chained) tiled.laid.laid tiled.rest

-- ---- what breaks the layout is a finding

no_such : (file : List ℕ) (docs : List Elements) (others : List ℕ) (at : ℕ) (what : What) → (FailsAt file at what → ⊥) → (FailsNext file docs [] at what → ⊥) → ((place : ℕ) (ats : List ℕ) → FailsNext file docs (place ∷ ats) at what → FailsAt file at what) → FailsNext file docs others at what → ⊥
no_such file docs [] at what none end more fails = end fails
no_such file docs (place ∷ others) at what none end more fails = none (more place others fails)

pub finding_of : (file collection : List ℕ) (ats : List ℕ) (at : ℕ) (what : What) → IsChained file collection ats → Breaks file ats at what → IsFinding file at what
finding_of file collection ats at Tiling chained breaks = (collection, ats, chained, breaks)
finding_of file collection ats at Document chained breaks = (collection, ats, chained, breaks)
finding_of file collection ats at File chained breaks = absurd (no_such file breaks.0 breaks.1 at File (λ f. f) (λ f. f) (λ place others f. f.1) breaks.4)
finding_of file collection ats at Extent chained breaks = absurd (no_such file breaks.0 breaks.1 at Extent (λ f. f) (λ f. f) (λ place others f. f.1) breaks.4)
finding_of file collection ats at Chain chained breaks = absurd (no_such file breaks.0 breaks.1 at Chain (λ f. f) (λ f. f) (λ place others f. f.1) breaks.4)

-- ---- the text of a dump

pub dump_none : (file text : List ℕ) (found : Option Contents) → IsRead file found → found ≡ None → text ≡ [] → Shows file text
dump_none file text found read none empty =
    let told = subst (λ (o : Option Contents). Tells read.0 read.1 o) none read.3 in
    (read.0, read.1, read.2, empty ∙ ap (doc_lines (full_name read.0)) (sym told))

pub dump_some : (file text : List ℕ) (found : Option Contents) (contents : Contents) → IsRead file found → found ≡ Some contents → text ≡ doc_lines contents.namespace contents.docs.items → Shows file text
dump_some file text found contents read some lines =
    let told = subst (λ (o : Option Contents). Tells read.0 read.1 o) some read.3 in
    (read.0, read.1, read.2, lines ∙ ap (λ (name : List ℕ). doc_lines name contents.docs.items) told.0 ∙ ap (doc_lines (full_name read.0)) told.1)

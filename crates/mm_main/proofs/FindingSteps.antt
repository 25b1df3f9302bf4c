-- A file with a finding holds no documents.
use Rattle.std.proofs.Common.{◌≡◌, ℕ, zero, suc, ℤ, pos, negsuc, ◌+◌, ◌-◌, ◌*◌, ◌/◌, ◌<◌, ◌≤◌, inl, inr, cond, List, [], ◌∷◌, ◌++◌, length, map, refl, sym, ap, ◌∙◌, arith, subst, append-nil}
use Rattle.std.proofs.lemmas.Bool.{lt-ltb, cond_both}
use Rattle.mm_base.specs.Bytes.{part}
use Rattle.mm_base.specs.declared.place.DiskLoc.{DiskLoc}
use Rattle.mm_frames.specs.declared.extent_header.ExtentHeader.{ExtentHeader}
use Rattle.mm_frames.specs.RecHeader.{rec_header_of}
use Rattle.mm_frames.proofs.Again.{extent_header_is}
use Rattle.mm_bson.specs.Tree.{Elements}
use Rattle.mm_bson.specs.Spelling.{spelling}
use Rattle.mm_main.specs.declared.chain.Link.{Link}
use Rattle.mm_main.specs.declared.chain.Link.TheVariants.{End, To, Outside}
use Rattle.mm_main.specs.declared.finding.What.{What}
use Rattle.mm_main.specs.declared.finding.What.TheVariants.{File, Extent, Chain, Tiling, Document}
use Rattle.mm_main.specs.Contents.{AreDocuments, HoldsDocs}
use Rattle.mm_main.specs.DataFile.{at_file_0, link_to, last_from, AreRecords, Fit, IsRest, IsRecord}
use Rattle.mm_main.specs.Findings.{IsHeaded, extent_linking, link_of, place_link, link_in, to_offset, IsOpened, IsLinked, Leads, IsFollowed, FailsBehind, IsChained, prev_of, last_place, IsLaid, next_at, offsets, end_of, AreLaid, FailsNext, Breaks, IsFinding}
use Rattle.mm_main.specs.Room.{file_len, extent_at, first_at, request, block_len, doubled_to, big_step, least_block}
use Rattle.mm_main.proofs.ChainSteps.{unseen, after, prev_is}
use Rattle.mm_main.proofs.HeaderSteps.{one_header, at_numbers}
use Rattle.mm_main.proofs.LayoutSteps.{one_begins, laid_is_right}
use Rattle.mm_main.proofs.ReadSteps.{last_is}

-- ---- chains from one link are one the beginning of the other

-- the record's link to the next one is in its bytes
pub one_next : (file : List ℕ) (prev : ℤ) (at : ℕ) (a b : IsLinked file prev at) → a.next ≡ b.next
one_next file prev at a b = sym a.header.1.1.0 ∙ b.header.1.1.0

-- the chain goes on with some records behind those
pub record GoesOn (file : List ℕ) (prev : ℤ) (link : Link) (all front : List ℕ) : Type 0 where
  pub back : List ℕ
  pub joined : all ≡ front ++ back
  pub leads : Leads file (after prev front) link back End

goes_more : (file : List ℕ) (prev : ℤ) (at : ℕ) (link : Link) (all front : List ℕ) → GoesOn file (pos at) link all front → GoesOn file prev link (at ∷ all) (at ∷ front)
goes_more file prev at link all front g = record { back = g.back; joined = ap (λ (xs : List ℕ). at ∷ xs) g.joined; leads = g.leads }

pub goes_on : (file : List ℕ) (prev : ℤ) (link end : Link) (all front : List ℕ) → Leads file prev link all End → Leads file prev link front end → GoesOn file prev end all front
goes_on file prev link end all [] whole leads = record { back = all; joined = refl; leads = subst (λ (l : Link). Leads file prev l all End) leads whole }
goes_on file prev link end [] (at ∷ front) whole leads = absurd (let never : End ≡ To at = sym whole ∙ leads.0 in cc)
goes_on file prev link end (one ∷ all) (at ∷ front) whole leads =
    let same : one ≡ at = let e : To one ≡ To at = sym whole.0 ∙ leads.0 in cc in
    let here = subst (λ (x : ℕ). (h : IsLinked file prev x) × Leads file (pos x) (link_of h.next) all End) same (whole.1, whole.2) in
    let rest = subst (λ (z : ℤ). Leads file (pos at) (link_of z) all End) (one_next file prev at here.0 leads.1) here.1 in
    subst (λ (x : ℕ). GoesOn file prev end (x ∷ all) (at ∷ front)) (sym same) (goes_more file prev at end all front (goes_on file (pos at) (link_of leads.1.next) end all front rest leads.2))

pub same_all : (file : List ℕ) (prev : ℤ) (all ats back : List ℕ) → all ≡ ats ++ back → Leads file prev End back End → all ≡ ats
same_all file prev all ats [] joined leads = joined ∙ append-nil ats
same_all file prev all ats (one ∷ back) joined leads = absurd (let e : End ≡ To one = leads.0 in cc)

-- ---- documents that are laid from one offset are one the beginning of the other

pub record LaidOn (docs front : List Elements) (at : ℕ) (others : List ℕ) : Type 0 where
  pub more : List Elements
  pub joined : docs ≡ front ++ more
  pub places : others ≡ offsets (end_of at front) more

pub laid_on : (file : List ℕ) (at : ℕ) (docs front : List Elements) (others : List ℕ) → AreLaid file at docs → AreLaid file at front → offsets at docs ≡ offsets at front ++ others → LaidOn docs front at others
laid_on file at docs [] others whole laid same = record { more = docs; joined = refl; places = sym same }
laid_on file at [] (doc ∷ front) others whole laid same = absurd (cc)
laid_on file at (one ∷ docs) (doc ∷ front) others whole laid same =
    let is : one ≡ doc = one_begins file at one doc whole.0.begins laid.0.begins in
    let rest = subst (λ (d : Elements). AreLaid file (next_at at d) docs × (offsets (next_at at d) docs ≡ offsets (next_at at doc) front ++ others)) is (whole.1, cc) in
    let g = laid_on file (next_at at doc) docs front others rest.0 laid.1 rest.1 in
    record { more = g.more; joined = ap (λ (d : Elements). d ∷ docs) is ∙ ap (λ (ds : List Elements). doc ∷ ds) g.joined; places = g.places }

laid_at : (file : List ℕ) (at : ℕ) (front : List Elements) (doc : Elements) (more : List Elements) → AreLaid file at (front ++ doc ∷ more) → IsLaid file (end_of at front) doc
laid_at file at [] doc more laid = laid.0
laid_at file at (one ∷ front) doc more laid = laid_at file (next_at at one) front doc more laid.1

-- ---- what a file that holds documents has

cond_least : (k r n : ℕ) → 32 ≤ r → 32 ≤ doubled_to k r n
unfolding doubled_to
cond_least zero r n least = least
cond_least (suc k) r n least = cond_both _ r (doubled_to k (2 * r) n) (λ m. 32 ≤ m) (λ _. least) (λ _. cond_least k (2 * r) n (omega arith))

request_least : (p : ℕ) → 32 ≤ request p
unfolding request
request_least p = cond_both _ (doubled_to 17 least_block (p + 16)) ((p + 16 + big_step - 1) / big_step * big_step) (λ m. 32 ≤ m) (λ _. cond_least 17 32 (p + 16) (omega arith)) (λ _. omega arith)

block_least : (at p : ℕ) → request p ≤ file_len - at → 32 ≤ block_len at p
unfolding block_len
block_least at p fits = cond_both _ (file_len - at) (request p) (λ m. 32 ≤ m) (λ _. omega (arith, request_least p)) (λ _. request_least p)

abbrev start : ℕ → List Elements → Link
start at [] = End
start at (doc ∷ docs) = To at

start_is : (at : ℕ) (docs : List Elements) → Fit at (map spelling docs) → link_of (link_to at (map spelling docs)) ≡ start at docs
start_is at [] fit = refl
start_is at (doc ∷ docs) fit = ap (λ b. cond b (To at) Outside) (lt-ltb at file_len (omega (arith, fit.0, request_least (length (spelling doc)))))

link_is : (file : List ℕ) (at : ℕ) (prev next : ℤ) (doc : Elements) → extent_at ≤ at → request (length (spelling doc)) ≤ file_len - at → IsRecord file at (block_len at (length (spelling doc))) prev next (spelling doc) → (here : IsLinked file prev at) × (here.next ≡ next)
link_is file at prev next doc behind fits r = (
  record { behind = behind; inside = omega (arith, request_least (length (spelling doc))); len = block_len at (length (spelling doc)); long = block_least at (length (spelling doc)) fits; next = next; header = r.header },
  refl,
)

leads_all : (file : List ℕ) (at : ℕ) (prev : ℤ) (docs : List Elements) → extent_at ≤ at → Fit at (map spelling docs) → AreRecords file at prev (map spelling docs) → Leads file prev (start at docs) (offsets at docs) End
unfolding link_is
leads_all file at prev [] behind fit records = refl
leads_all file at prev (doc ∷ docs) behind fit records =
    let next = next_at at doc in
    let here = link_is file at prev _ doc behind fit.0 records.0 in (
      refl,
      here.0,
      subst (λ (l : Link). Leads file (pos at) l (offsets next docs) End) (sym (start_is next docs fit.1)) (leads_all file next (pos at) docs (omega (arith, behind)) fit.1 records.1),
    )

laid_all : (file : List ℕ) (at : ℕ) (prev : ℤ) (docs : List Elements) → AreDocuments docs → Fit at (map spelling docs) → AreRecords file at prev (map spelling docs) → AreLaid file at docs
unfolding rec_header_of
laid_all file at prev [] documents fit records = tt
laid_all file at prev (doc ∷ docs) documents fit records = (
  record { begins = record { document = documents.0; bytes = records.0.holds }; due = record { room = fit.0; long = records.0.header.0 } },
  laid_all file (next_at at doc) (pos at) docs documents.1 fit.1 records.1,
)

rest_of : (file : List ℕ) (at : ℕ) (prev : ℤ) (docs : List Elements) → AreRecords file at prev (map spelling docs) → IsRest file (end_of at docs)
rest_of file at prev [] records = records
rest_of file at prev (doc ∷ docs) records = rest_of file (next_at at doc) (pos at) docs records.1

-- a file that holds documents, as it is read
pub record Whole (file collection : List ℕ) (docs : List Elements) : Type 0 where
  pub first : DiskLoc
  pub last : DiskLoc
  pub opened : IsOpened file collection first last
  pub leads : Leads file (negsuc 0) (place_link first) (offsets first_at docs) End
  pub last_is : last ≡ last_place (offsets first_at docs)
  pub laid : AreLaid file first_at docs
  pub some : 0 < length docs
  pub rest : IsRest file (end_of first_at docs)

place_leads : (p : DiskLoc) → p.file ≡ pos 0 → p.ofs ≡ pos first_at → place_link p ≡ To first_at
place_leads p file ofs = ap (λ (z : ℤ). link_in z p.ofs) file ∙ ap to_offset ofs

pub whole_of : (file collection : List ℕ) (doc : Elements) (docs : List Elements) → HoldsDocs collection (doc ∷ docs) file → Whole file collection (doc ∷ docs)
whole_of file collection doc docs h =
    let numbers = at_numbers first_at (omega arith) in
    let holds = h.written.holds in
    record {
      first = at_file_0 (pos first_at);
      last = at_file_0 (last_from first_at (negsuc 0) (map spelling (doc ∷ docs)));
      opened = record { size = h.written.size; header = holds.0; name = h.name (omega arith); extent = holds.1 };
      leads = subst (λ (l : Link). Leads file (negsuc 0) l (offsets first_at (doc ∷ docs)) End) (sym (place_leads (at_file_0 (pos first_at)) numbers.0 numbers.1))
          (leads_all file first_at (negsuc 0) (doc ∷ docs) (omega arith) h.written.fit holds.2);
      last_is = ap at_file_0 (last_is (next_at first_at doc) first_at docs);
      laid = laid_all file first_at (negsuc 0) (doc ∷ docs) h.documents h.written.fit holds.2;
      some = omega arith;
      rest = rest_of file first_at (negsuc 0) (doc ∷ docs) holds.2;
    }

-- ---- no finding

pub same_ends : (file collection other : List ℕ) (first last first' last' : DiskLoc) → IsOpened file collection first last → IsOpened file other first' last' → (first ≡ first') × (last ≡ last')
same_ends file collection other first last first' last' a b =
    let same : extent_linking collection first last ≡ extent_linking other first' last' = sym (extent_header_is (extent_linking collection first last) (part extent_at 176 file) a.extent) ∙ extent_header_is (extent_linking other first' last') (part extent_at 176 file) b.extent in
    (ap (λ (h : ExtentHeader). h.first_record) same, ap (λ (h : ExtentHeader). h.last_record) same)

pub no_chain : (file : List ℕ) (first last : DiskLoc) (all ats back : List ℕ) (link : Link) (prev : ℤ) (at : ℕ) → all ≡ ats ++ back → Leads file prev link back End → prev ≡ prev_of ats → IsFollowed file first ats link → last ≡ last_place all → FailsBehind file last ats link at → ⊥
no_chain file first last all ats [] (To place) prev at joined leads same f end fails = absurd (cc)
no_chain file first last all ats (one ∷ back) (To place) prev at joined leads same f end fails =
    let is : place ≡ one = let e : To place ≡ To one = leads.0 in cc in
    let here = subst (λ (x : ℕ). IsLinked file prev x) (sym is) leads.1 in
    let linked = subst (λ (z : ℤ). IsLinked file z place) same here in
    fails.1 (linked, unseen file (place_link first) ats place f.leads linked)
no_chain file first last all ats [] Outside prev at joined leads same f end fails = absurd (cc)
no_chain file first last all ats (one ∷ back) Outside prev at joined leads same f end fails = absurd (let e : Outside ≡ To one = leads.0 in cc)
no_chain file first last all ats [] End prev at joined leads same f end fails = fails.1 (end ∙ ap last_place (joined ∙ append-nil ats))
no_chain file first last all ats (one ∷ back) End prev at joined leads same f end fails = absurd (let e : End ≡ To one = leads.0 in cc)

-- the next record isn't wrong where it holds a document that is laid there
pub no_record : (file : List ℕ) (docs : List Elements) (others : List ℕ) (place at : ℕ) (what : What) (doc : Elements) → FailsNext file docs (place ∷ others) at what → place ≡ at → IsLaid file at doc → ⊥
no_record file docs others place at Tiling doc (inl other) same laid = other same
no_record file docs others place at Tiling doc (inr wrong) same laid = laid_is_right file at doc laid wrong
no_record file docs others place at Document doc f same laid = f.1.1 doc laid.begins
no_record file docs others place at File doc f same laid = f.1
no_record file docs others place at Extent doc f same laid = f.1
no_record file docs others place at Chain doc f same laid = f.1

no_next : (file : List ℕ) (docs front more : List Elements) (others : List ℕ) (at : ℕ) (what : What) → docs ≡ front ++ more → others ≡ offsets (end_of first_at front) more → AreLaid file first_at docs → 0 < length docs → IsRest file (end_of first_at docs)
    → at ≡ end_of first_at front → FailsNext file front others at what → ⊥
no_next file docs front [] [] at Tiling joined places laid some rest here fails =
    let all : docs ≡ front = joined ∙ append-nil front in
    fails (omega (arith, ap length all, some)) (subst (λ (x : ℕ). IsRest file x) (ap (end_of first_at) all ∙ sym here) rest)
no_next file docs front [] [] at File joined places laid some rest here fails = fails
no_next file docs front [] [] at Extent joined places laid some rest here fails = fails
no_next file docs front [] [] at Chain joined places laid some rest here fails = fails
no_next file docs front [] [] at Document joined places laid some rest here fails = fails
no_next file docs front (doc ∷ more) [] at what joined places laid some rest here fails = absurd (cc)
no_next file docs front [] (place ∷ others) at what joined places laid some rest here fails = absurd (cc)
no_next file docs front (doc ∷ more) (place ∷ others) at what joined places laid some rest here fails =
    let is : place ≡ end_of first_at front = cc in
    let record_here = subst (λ (x : ℕ). IsLaid file x doc) (sym here) (laid_at file first_at front doc more (subst (λ (ds : List Elements). AreLaid file first_at ds) joined laid)) in
    no_record file front others place at what doc fails (is ∙ sym here) record_here

pub headed : (file collection : List ℕ) (docs : List Elements) → HoldsDocs collection docs file → IsHeaded file
headed file collection [] h = (h.written.size, inl h.written.holds)
headed file collection (doc ∷ docs) h = (h.written.size, inr h.written.holds.0)

no_break : (file collection other : List ℕ) (docs : List Elements) (ats : List ℕ) (at : ℕ) (what : What) → Whole file collection docs → IsChained file other ats → Breaks file ats at what → ⊥
no_break file collection other docs ats at what w chained breaks =
    let ends = same_ends file collection other w.first w.last chained.first chained.last w.opened chained.opened in
    let leads = subst (λ (p : DiskLoc). Leads file (negsuc 0) (place_link p) (offsets first_at docs) End) ends.0 w.leads in
    let g = goes_on file (negsuc 0) (place_link chained.first) End (offsets first_at docs) ats leads chained.followed.leads in
    let same = same_all file _ (offsets first_at docs) ats g.back g.joined g.leads in
    let on = laid_on file first_at docs breaks.0 breaks.1 w.laid breaks.2.laid (same ∙ breaks.2.places) in
    no_next file docs breaks.0 on.more breaks.1 at what on.joined on.places w.laid w.some w.rest breaks.3 breaks.4

-- a file with a finding holds no documents
pub excludes : (file : List ℕ) (at : ℕ) (what : What) → IsFinding file at what → (collection : List ℕ) (docs : List Elements) → HoldsDocs collection docs file → ⊥
excludes file at File f collection docs h = f.1 (headed file collection docs h)
excludes file at Extent f collection [] h = one_header file h.written.holds f.2
excludes file at Extent f collection (doc ∷ docs) h = let w = whole_of file collection doc docs h in f.3 collection w.first w.last w.opened
excludes file at Chain f collection [] h = one_header file h.written.holds f.5.header
excludes file at Chain f collection (doc ∷ docs) h =
    let w = whole_of file collection doc docs h in
    let all = offsets first_at (doc ∷ docs) in
    let ends = same_ends file collection f.0 w.first w.last f.1 f.2 w.opened f.5 in
    let leads = subst (λ (p : DiskLoc). Leads file (negsuc 0) (place_link p) all End) ends.0 w.leads in
    let g = goes_on file (negsuc 0) (place_link f.1) f.4 all f.3 leads f.6.leads in
    no_chain file f.1 f.2 all f.3 g.back f.4 _ at g.joined g.leads (sym (prev_is f.3)) f.6 (sym ends.1 ∙ w.last_is) f.7
excludes file at Tiling f collection [] h = one_header file h.written.holds f.2.opened.header
excludes file at Tiling f collection (doc ∷ docs) h = no_break file collection f.0 (doc ∷ docs) f.1 at Tiling (whole_of file collection doc docs h) f.2 f.3
excludes file at Document f collection [] h = one_header file h.written.holds f.2.opened.header
excludes file at Document f collection (doc ∷ docs) h = no_break file collection f.0 (doc ∷ docs) f.1 at Document (whole_of file collection doc docs h) f.2 f.3

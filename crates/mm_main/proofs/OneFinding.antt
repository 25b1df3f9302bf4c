-- A file has one first finding at most.
use Rattle.std.proofs.Common.{◌≡◌, ℕ, ℤ, pos, negsuc, ◌⊎◌, inl, inr, List, [], ◌∷◌, ◌++◌, refl, sym, ap, ◌∙◌, subst, append-nil}
use Rattle.mm_base.specs.declared.place.DiskLoc.{DiskLoc}
use Rattle.mm_bson.specs.Tree.{Elements}
use Rattle.mm_main.specs.declared.chain.Link.{Link}
use Rattle.mm_main.specs.declared.chain.Link.TheVariants.{End, To, Outside}
use Rattle.mm_main.specs.declared.finding.What.{What}
use Rattle.mm_main.specs.declared.finding.What.TheVariants.{File, Extent, Chain, Tiling, Document}
use Rattle.mm_main.specs.Findings.{IsHeaded, link_of, place_link, IsOpened, IsLinked, Leads, IsFollowed, FailsBehind, IsChained, IsLaid, next_at, offsets, end_of, AreLaid, FailsNext, Breaks, IsFinding}
use Rattle.mm_main.specs.Room.{first_at}
use Rattle.mm_main.proofs.ChainSteps.{unseen, after, prev_is}
use Rattle.mm_main.proofs.FindingSteps.{one_next, goes_on, same_all, same_ends, no_chain, no_record}
use Rattle.mm_main.proofs.LayoutSteps.{one_begins}

-- ---- of two chains from one link one goes on behind the other

-- the second goes on behind the first
record GoesBehind (file : List ℕ) (prev : ℤ) (link : Link) (front all : List ℕ) (end : Link) : Type 0 where
  pub back : List ℕ
  pub joined : all ≡ front ++ back
  pub leads : Leads file (after prev front) link back end

behind_more : (file : List ℕ) (prev : ℤ) (at : ℕ) (link end : Link) (front all : List ℕ) → GoesBehind file (pos at) link front all end → GoesBehind file prev link (at ∷ front) (at ∷ all) end
behind_more file prev at link end front all g = record { back = g.back; joined = ap (λ (xs : List ℕ). at ∷ xs) g.joined; leads = g.leads }

abbrev Either : List ℕ → ℤ → Link → Link → List ℕ → List ℕ → Type 0
Either file prev a_last b_last a b = GoesBehind file prev a_last a b b_last ⊎ GoesBehind file prev b_last b a a_last

either_more : (file : List ℕ) (prev : ℤ) (at : ℕ) (a_last b_last : Link) (a b : List ℕ) → Either file (pos at) a_last b_last a b → Either file prev a_last b_last (at ∷ a) (at ∷ b)
either_more file prev at a_last b_last a b (inl g) = inl (behind_more file prev at a_last b_last a b g)
either_more file prev at a_last b_last a b (inr g) = inr (behind_more file prev at b_last a_last b a g)

either : (file : List ℕ) (prev : ℤ) (link a_last b_last : Link) (a b : List ℕ) → Leads file prev link a a_last → Leads file prev link b b_last → Either file prev a_last b_last a b
either file prev link a_last b_last [] b first second = inl (record { back = b; joined = refl; leads = subst (λ (l : Link). Leads file prev l b b_last) first second })
either file prev link a_last b_last (x ∷ a) [] first second = inr (record { back = x ∷ a; joined = refl; leads = subst (λ (l : Link). Leads file prev l (x ∷ a) a_last) second first })
either file prev link a_last b_last (x ∷ a) (y ∷ b) first second =
    let same : x ≡ y = let e : To x ≡ To y = sym first.0 ∙ second.0 in cc in
    let here = subst (λ (z : ℕ). (h : IsLinked file prev z) × Leads file (pos z) (link_of h.next) a a_last) same (first.1, first.2) in
    let rest = subst (λ (z : ℤ). Leads file (pos y) (link_of z) a a_last) (one_next file prev y here.0 second.1) here.1 in
    subst (λ (z : ℕ). Either file prev a_last b_last (z ∷ a) (y ∷ b)) (sym same) (either_more file prev y a_last b_last a b (either file (pos y) (link_of second.1.next) a_last b_last a b rest second.2))

-- nothing follows where a chain is wrong
stuck : (file : List ℕ) (first last : DiskLoc) (ats back : List ℕ) (link end : Link) (at : ℕ) → IsFollowed file first ats link → FailsBehind file last ats link at → Leads file (after (negsuc 0) ats) link back end → back ≡ []
stuck file first last ats [] link end at f fails leads = refl
stuck file first last ats (one ∷ back) (To place) end at f fails leads =
    let is : place ≡ one = let e : To place ≡ To one = leads.0 in cc in
    let here = subst (λ (x : ℕ). IsLinked file (after (negsuc 0) ats) x) (sym is) leads.1 in
    let linked = subst (λ (z : ℤ). IsLinked file z place) (sym (prev_is ats)) here in
    absurd (fails.1 (linked, unseen file (place_link first) ats place f.leads linked))
stuck file first last ats (one ∷ back) Outside end at f fails leads = absurd (let e : Outside ≡ To one = leads.0 in cc)
stuck file first last ats (one ∷ back) End end at f fails leads = absurd (let e : End ≡ To one = leads.0 in cc)

one_fail : (file : List ℕ) (last : DiskLoc) (ats : List ℕ) (link : Link) (a b : ℕ) → FailsBehind file last ats link a → FailsBehind file last ats link b → a ≡ b
one_fail file last ats (To place) a b first second = first.0 ∙ sym second.0
one_fail file last ats Outside a b first second = first ∙ sym second
one_fail file last ats End a b first second = first.0 ∙ sym second.0

same_fail : (file : List ℕ) (first last : DiskLoc) (a b : List ℕ) (a_last b_last : Link) (x y : ℕ) → IsFollowed file first a a_last → FailsBehind file last a a_last x → FailsBehind file last b b_last y → GoesBehind file (negsuc 0) a_last a b b_last → x ≡ y
same_fail file first last a b a_last b_last x y f fails other g =
    let none = stuck file first last a g.back a_last b_last x f fails g.leads in
    let all : b ≡ a = g.joined ∙ ap (λ (xs : List ℕ). a ++ xs) none ∙ append-nil a in
    let end : a_last ≡ b_last = subst (λ (xs : List ℕ). Leads file (after (negsuc 0) a) a_last xs b_last) none g.leads in
    one_fail file last a a_last x y fails (subst (λ (l : Link). FailsBehind file last a l y) (sym end) (subst (λ (xs : List ℕ). FailsBehind file last xs b_last y) all other))

one_chain : (file : List ℕ) (first last : DiskLoc) (a b : List ℕ) (a_last b_last : Link) (x y : ℕ) → IsFollowed file first a a_last → FailsBehind file last a a_last x → IsFollowed file first b b_last → FailsBehind file last b b_last y → x ≡ y
one_chain file first last a b a_last b_last x y f fails f' fails' = which (either file (negsuc 0) (place_link first) a_last b_last a b f.leads f'.leads)
  where
    which : Either file (negsuc 0) a_last b_last a b → x ≡ y
    which (inl g) = same_fail file first last a b a_last b_last x y f fails fails' g
    which (inr g) = sym (same_fail file first last b a b_last a_last y x f' fails' fails g)

-- ---- of two lists of documents that are laid from one offset one goes on behind the other

record LaidBehind (at : ℕ) (front all : List Elements) (rest others : List ℕ) : Type 0 where
  pub more : List Elements
  pub joined : all ≡ front ++ more
  pub places : rest ≡ offsets (end_of at front) more ++ others

laid_more : (at : ℕ) (doc : Elements) (front all : List Elements) (rest others : List ℕ) → LaidBehind (next_at at doc) front all rest others → LaidBehind at (doc ∷ front) (doc ∷ all) rest others
laid_more at doc front all rest others l = record { more = l.more; joined = ap (λ (ds : List Elements). doc ∷ ds) l.joined; places = l.places }

abbrev EitherLaid : ℕ → List Elements → List Elements → List ℕ → List ℕ → Type 0
EitherLaid at a b a_rest b_rest = LaidBehind at a b a_rest b_rest ⊎ LaidBehind at b a b_rest a_rest

either_laid_more : (at : ℕ) (doc : Elements) (a b : List Elements) (a_rest b_rest : List ℕ) → EitherLaid (next_at at doc) a b a_rest b_rest → EitherLaid at (doc ∷ a) (doc ∷ b) a_rest b_rest
either_laid_more at doc a b a_rest b_rest (inl l) = inl (laid_more at doc a b a_rest b_rest l)
either_laid_more at doc a b a_rest b_rest (inr l) = inr (laid_more at doc b a b_rest a_rest l)

either_laid : (file : List ℕ) (at : ℕ) (a b : List Elements) (a_rest b_rest : List ℕ) → AreLaid file at a → AreLaid file at b → offsets at a ++ a_rest ≡ offsets at b ++ b_rest → EitherLaid at a b a_rest b_rest
either_laid file at [] b a_rest b_rest first second same = inl (record { more = b; joined = refl; places = same })
either_laid file at (x ∷ a) [] a_rest b_rest first second same = inr (record { more = x ∷ a; joined = refl; places = sym same })
either_laid file at (x ∷ a) (y ∷ b) a_rest b_rest first second same =
    let is : x ≡ y = one_begins file at x y first.0.begins second.0.begins in
    let rest = subst (λ (d : Elements). AreLaid file (next_at at d) a × (offsets (next_at at d) a ++ a_rest ≡ offsets (next_at at y) b ++ b_rest)) is (first.1, cc) in
    subst (λ (d : Elements). EitherLaid at (d ∷ a) (y ∷ b) a_rest b_rest) (sym is) (either_laid_more at y a b a_rest b_rest (either_laid file (next_at at y) a b a_rest b_rest rest.0 second.1 rest.1))

laid_there : (file : List ℕ) (at : ℕ) (front : List Elements) (doc : Elements) (more : List Elements) → AreLaid file at (front ++ doc ∷ more) → IsLaid file (end_of at front) doc
laid_there file at [] doc more laid = laid.0
laid_there file at (one ∷ front) doc more laid = laid_there file (next_at at one) front doc more laid.1

-- no document is laid where the next record is wrong
halted : (file : List ℕ) (front all more : List Elements) (rest others : List ℕ) (at : ℕ) (what : What) → AreLaid file first_at all → all ≡ front ++ more → rest ≡ offsets (end_of first_at front) more ++ others → at ≡ end_of first_at front → FailsNext file front rest at what → more ≡ []
halted file front all [] rest others at what laid joined places here fails = refl
halted file front all (doc ∷ more) rest others at what laid joined places here fails =
    let record_here = subst (λ (x : ℕ). IsLaid file x doc) (sym here) (laid_there file first_at front doc more (subst (λ (ds : List Elements). AreLaid file first_at ds) joined laid)) in
    let next = subst (λ (xs : List ℕ). FailsNext file front xs at what) places fails in
    absurd (no_record file front (offsets (next_at (end_of first_at front) doc) more ++ others) (end_of first_at front) at what doc next (sym here) record_here)

-- what is wrong with the layout or a document
tiling_or_document : (file : List ℕ) (docs : List Elements) (others : List ℕ) (at : ℕ) (what : What) → FailsNext file docs others at what → (what ≡ Tiling) ⊎ (what ≡ Document)
tiling_or_document file docs others at Tiling fails = inl refl
tiling_or_document file docs others at Document fails = inr refl
tiling_or_document file docs [] at File fails = absurd fails
tiling_or_document file docs [] at Extent fails = absurd fails
tiling_or_document file docs [] at Chain fails = absurd fails
tiling_or_document file docs (place ∷ others) at File fails = absurd fails.1
tiling_or_document file docs (place ∷ others) at Extent fails = absurd fails.1
tiling_or_document file docs (place ∷ others) at Chain fails = absurd fails.1

not_both : (file : List ℕ) (docs : List Elements) (others : List ℕ) (at : ℕ) → FailsNext file docs others at Tiling → FailsNext file docs others at Document → ⊥
not_both file docs [] at tiling document = document
not_both file docs (place ∷ others) at (inl other) document = other document.0
not_both file docs (place ∷ others) at (inr wrong) document = document.1.0 wrong

one_what : (file : List ℕ) (docs : List Elements) (others : List ℕ) (at : ℕ) (v w : What) → FailsNext file docs others at v → FailsNext file docs others at w → v ≡ w
one_what file docs others at v w first second = which (tiling_or_document file docs others at v first) (tiling_or_document file docs others at w second)
  where
    fails_as : (u u' : What) → u ≡ u' → FailsNext file docs others at u → FailsNext file docs others at u'
    fails_as u u' is fails = subst (λ (x : What). FailsNext file docs others at x) is fails

    which : (v ≡ Tiling) ⊎ (v ≡ Document) → (w ≡ Tiling) ⊎ (w ≡ Document) → v ≡ w
    which (inl a) (inl b) = a ∙ sym b
    which (inr a) (inr b) = a ∙ sym b
    which (inl a) (inr b) = absurd (not_both file docs others at (fails_as v Tiling a first) (fails_as w Document b second))
    which (inr a) (inl b) = absurd (not_both file docs others at (fails_as w Tiling b second) (fails_as v Document a first))

abbrev Same : ℕ → ℕ → What → What → Type 0
Same x y v w = (x ≡ y) × (v ≡ w)

turned : (x y : ℕ) (v w : What) → Same x y v w → Same y x w v
turned x y v w same = (sym same.0, sym same.1)

same_break : (file ats : List ℕ) (x y : ℕ) (v w : What) (first : Breaks file ats x v) (second : Breaks file ats y w) → LaidBehind first_at first.0 second.0 first.1 second.1 → Same x y v w
same_break file ats x y v w first second l =
    let none = halted file first.0 second.0 l.more first.1 second.1 x v second.2.laid l.joined l.places first.3 first.4 in
    let docs : second.0 ≡ first.0 = l.joined ∙ ap (λ (ds : List Elements). first.0 ++ ds) none ∙ append-nil first.0 in
    let rest : first.1 ≡ second.1 = l.places ∙ ap (λ (ds : List Elements). offsets (end_of first_at first.0) ds ++ second.1) none in
    let at : x ≡ y = first.3 ∙ ap (end_of first_at) (sym docs) ∙ sym second.3 in
    let fails = subst (λ (n : ℕ). FailsNext file first.0 first.1 n w) (sym at) (subst (λ (xs : List ℕ). FailsNext file first.0 xs y w) (sym rest) (subst (λ (ds : List Elements). FailsNext file ds second.1 y w) docs second.4)) in
    (at, one_what file first.0 first.1 x v w first.4 fails)

one_break : (file ats : List ℕ) (x y : ℕ) (v w : What) → Breaks file ats x v → Breaks file ats y w → Same x y v w
one_break file ats x y v w first second = which (either_laid file first_at first.0 second.0 first.1 second.1 first.2.laid second.2.laid (sym first.2.places ∙ second.2.places))
  where
    which : EitherLaid first_at first.0 second.0 first.1 second.1 → Same x y v w
    which (inl l) = same_break file ats x y v w first second l
    which (inr l) = turned y x w v (same_break file ats y x w v second first l)

-- ---- the findings

-- the chain is wrong
abbrev BreaksChain : List ℕ → ℕ → Type 0
BreaksChain file at =
    (collection : List ℕ) × (first : DiskLoc) × (last : DiskLoc) × (ats : List ℕ) × (link : Link)
    × IsOpened file collection first last × IsFollowed file first ats link × FailsBehind file last ats link at

-- what lies behind the chain is wrong
abbrev BreaksBehind : List ℕ → ℕ → What → Type 0
BreaksBehind file at what = (collection : List ℕ) × (ats : List ℕ) × IsChained file collection ats × Breaks file ats at what

chained_once : (file a b : List ℕ) (a_name b_name : List ℕ) → IsChained file a_name a → IsChained file b_name b → a ≡ b
chained_once file a b a_name b_name first second =
    let ends = same_ends file a_name b_name first.first first.last second.first second.last first.opened second.opened in
    let leads = subst (λ (p : DiskLoc). Leads file (negsuc 0) (place_link p) a End) ends.0 first.followed.leads in
    let g = goes_on file (negsuc 0) (place_link second.first) End a b leads second.followed.leads in
    same_all file _ a b g.back g.joined g.leads

one_behind : (file : List ℕ) (x y : ℕ) (v w : What) → BreaksBehind file x v → BreaksBehind file y w → Same x y v w
one_behind file x y v w first second =
    let same = chained_once file first.1 second.1 first.0 second.0 first.2 second.2 in
    one_break file second.1 x y v w (subst (λ (xs : List ℕ). Breaks file xs x v) same first.3) second.3

one_broken_chain : (file : List ℕ) (x y : ℕ) → BreaksChain file x → BreaksChain file y → x ≡ y
one_broken_chain file x y a b =
    let ends = same_ends file a.0 b.0 a.1 a.2 b.1 b.2 a.5 b.5 in
    let followed = subst (λ (p : DiskLoc). IsFollowed file p a.3 a.4) ends.0 a.6 in
    let fails = subst (λ (p : DiskLoc). FailsBehind file p a.3 a.4 x) ends.1 a.7 in
    one_chain file b.1 b.2 a.3 b.3 a.4 b.4 x y followed fails b.6 b.7

not_chained : (file : List ℕ) (x : ℕ) (name ats : List ℕ) → BreaksChain file x → IsChained file name ats → ⊥
not_chained file x name ats f c =
    let ends = same_ends file name f.0 c.first c.last f.1 f.2 c.opened f.5 in
    let leads = subst (λ (p : DiskLoc). Leads file (negsuc 0) (place_link p) ats End) ends.0 c.followed.leads in
    let g = goes_on file (negsuc 0) (place_link f.1) f.4 ats f.3 leads f.6.leads in
    no_chain file f.1 f.2 ats f.3 g.back f.4 _ x g.joined g.leads (sym (prev_is f.3)) f.6 (sym ends.1 ∙ c.last_is) f.7

opened_headed : (file name : List ℕ) (first last : DiskLoc) → IsOpened file name first last → IsHeaded file
opened_headed file name first last o = (o.size, inr o.header)

-- a file has one first finding at most
pub one_finding : (file : List ℕ) (x y : ℕ) (v w : What) → IsFinding file x v → IsFinding file y w → (x ≡ y) × (v ≡ w)
one_finding file x y File File a b = (a.0 ∙ sym b.0, refl)
one_finding file x y File Extent a b = absurd (a.1 (b.1, inr b.2))
one_finding file x y File Chain a b = absurd (a.1 (opened_headed file b.0 b.1 b.2 b.5))
one_finding file x y File Tiling a b = absurd (a.1 (opened_headed file b.0 _ _ b.2.opened))
one_finding file x y File Document a b = absurd (a.1 (opened_headed file b.0 _ _ b.2.opened))
one_finding file x y Extent File a b = absurd (b.1 (a.1, inr a.2))
one_finding file x y Extent Extent a b = (a.0 ∙ sym b.0, refl)
one_finding file x y Extent Chain a b = absurd (a.3 b.0 b.1 b.2 b.5)
one_finding file x y Extent Tiling a b = absurd (a.3 b.0 _ _ b.2.opened)
one_finding file x y Extent Document a b = absurd (a.3 b.0 _ _ b.2.opened)
one_finding file x y Chain File a b = absurd (b.1 (opened_headed file a.0 a.1 a.2 a.5))
one_finding file x y Chain Extent a b = absurd (b.3 a.0 a.1 a.2 a.5)
one_finding file x y Chain Chain a b = (one_broken_chain file x y a b, refl)
one_finding file x y Chain Tiling a b = absurd (not_chained file x b.0 b.1 a b.2)
one_finding file x y Chain Document a b = absurd (not_chained file x b.0 b.1 a b.2)
one_finding file x y Tiling File a b = absurd (b.1 (opened_headed file a.0 _ _ a.2.opened))
one_finding file x y Tiling Extent a b = absurd (b.3 a.0 _ _ a.2.opened)
one_finding file x y Tiling Chain a b = absurd (not_chained file y a.0 a.1 b a.2)
one_finding file x y Tiling Tiling a b = one_behind file x y Tiling Tiling a b
one_finding file x y Tiling Document a b = one_behind file x y Tiling Document a b
one_finding file x y Document File a b = absurd (b.1 (opened_headed file a.0 _ _ a.2.opened))
one_finding file x y Document Extent a b = absurd (b.3 a.0 _ _ a.2.opened)
one_finding file x y Document Chain a b = absurd (not_chained file y a.0 a.1 b a.2)
one_finding file x y Document Tiling a b = one_behind file x y Document Tiling a b
one_finding file x y Document Document a b = one_behind file x y Document Document a b

-- Documents that are stored one after another, and the file that is read off the shared image.
use Rattle.std.proofs.Common.{false, ◌≡◌, ℕ, ◌+◌, ◌-◌, ◌<◌, ◌≤◌, List, [], ◌∷◌, ◌++◌, length, map, take, drop, get_or, refl, replicate, sym, ap, ◌∙◌, arith, subst, length-drop, length-append, None, unwrap_or}
use Rattle.std.specs.FinMap.{get, insert, get-empty}
use Rattle.std.specs.Ordering.{nat_cmp}
use Rattle.std.proofs.Math.Seq.{take-add}
use Rattle.std.proofs.lemmas.List.{take_all, length-replicate, length-take}
use Rattle.mm_bytes.specs.Files.{read_from}
use Rattle.mm_views.specs.State.{Drafting, no_views, drafting_of}
use Rattle.mm_views.proofs.Making.{get-put}
use Rattle.mm_bson.specs.Built.{IsBuilt}
use Rattle.mm_bson.specs.Tree.{Elements}
use Rattle.mm_bson.specs.Spelling.{spelling}
use Rattle.mm_model.specs.declared.action.Action.{Action}
use Rattle.mm_ranges.specs.declared.part.Made.{Made}
use Rattle.mm_main.specs.declared.answers.Reply.{Reply}
use Rattle.mm_main.specs.declared.answers.Reply.TheVariants.{Done, NoSpace}
use Rattle.mm_main.specs.declared.store.Store.{Store}
use Rattle.mm_main.specs.Contents.{AreBuilt}
use Rattle.mm_main.specs.Drafted.{drafted, end_from}
use Rattle.mm_main.specs.Inserts.{IsInsert, AreInserts, doc_of, docs_of}
use Rattle.mm_main.specs.Room.{file_len, first_at, request, block_len, replies_of, stored}
use Rattle.mm_main.specs.Storing.{IsStore, IsAnswered}
use Rattle.mm_main.proofs.FileSteps.{block_inside}
use Rattle.mm_main.proofs.MoreSteps.{end_push, stands_inside}
use Rattle.mm_main.proofs.PlayedSteps.{cut}
use Rattle.mm_main.proofs.RoomSteps.{Answering, answering_first, answering_done, answering_none, answering_all}

-- ---- the new file

pub absent_at_first : (d : Drafting) → d ≡ drafting_of no_views → get d.image 0 ≡ None
absent_at_first d new = ap (λ (e : Drafting). get e.image 0) new ∙ get-empty nat_cmp 0

pub made_size : (d new : Drafting) (made : List Made) (n : ℕ) → new ≡ record d { image = insert d.image 0 (replicate n 0); made = made; is_reserved = false } → length (drafted new) ≡ n
made_size d new made n is =
    ap (λ (e : Drafting). length (drafted e)) is ∙ ap (λ o. length (unwrap_or o [])) (get-put d.image 0 (replicate n 0) 0) ∙ length-replicate n 0

-- ---- one document after another

pub record Storing (collection : List ℕ) (docs left : List Elements) (replies : List Reply) (store : Store) : Type 0 where
  pub payloads : List (List ℕ)
  pub answering : Answering docs left replies payloads store.chain.end
  pub holds : IsStore collection payloads store

pub storing_first : (collection : List ℕ) (docs : List Elements) (store : Store) → IsStore collection [] store → Storing collection docs docs [] store
storing_first collection docs store s = record {
  payloads = [];
  answering = subst (λ (n : ℕ). Answering docs docs [] [] n) (sym s.stands.at_is) (answering_first docs);
  holds = s;
}

pub storing_more : (collection : List ℕ) (docs left : List Elements) (doc : Elements) (payload : List ℕ) (replies : List Reply) (store new : Store) (reply : Reply) → (s : Storing collection docs (doc ∷ left) replies store) → payload ≡ spelling doc
    → IsAnswered collection s.payloads payload new reply → Storing collection docs left (replies ++ reply ∷ []) new
storing_more collection docs left doc payload replies store new Done s same answered =
    let at_is = s.holds.stands.at_is in
    let inside = stands_inside collection s.payloads _ store.chain.end store.chain.last s.holds.stands in
    let len : length payload ≡ length (spelling doc) = ap length same in
    let room : request (length (spelling doc)) ≤ file_len - store.chain.end = subst (λ (n : ℕ). request (length (spelling doc)) ≤ file_len - n) (sym at_is) (subst (λ (n : ℕ). request n ≤ file_len - end_from first_at s.payloads) len answered.0) in
    let end : new.chain.end ≡ store.chain.end + block_len store.chain.end (length (spelling doc)) =
    answered.1.stands.at_is ∙ end_push first_at s.payloads payload ∙ ap (λ (n : ℕ). n + block_len n (length payload)) (sym at_is) ∙ ap (λ (n : ℕ). store.chain.end + block_len store.chain.end n) len in
    let more = answering_done docs left doc replies s.payloads store.chain.end s.answering room (block_inside store.chain.end (length (spelling doc)) inside.1 room) in
    record {
      payloads = s.payloads ++ payload ∷ [];
      answering = subst (λ (n : ℕ). Answering docs left (replies ++ Done ∷ []) (s.payloads ++ payload ∷ []) n) (sym end) (subst (λ (p : List ℕ). Answering docs left (replies ++ Done ∷ []) (s.payloads ++ p ∷ []) (store.chain.end + block_len store.chain.end (length (spelling doc)))) (sym same) more);
      holds = answered.1;
    }
storing_more collection docs left doc payload replies store new NoSpace s same answered =
    let at_is = s.holds.stands.at_is in
    let long : file_len - store.chain.end < request (length (spelling doc)) = subst (λ (n : ℕ). file_len - n < request (length (spelling doc))) (sym at_is) (subst (λ (n : ℕ). file_len - end_from first_at s.payloads < request n) (ap length same) answered.0) in
    let end : new.chain.end ≡ store.chain.end = answered.1.stands.at_is ∙ sym at_is in
    record {
      payloads = s.payloads;
      answering = subst (λ (n : ℕ). Answering docs left (replies ++ NoSpace ∷ []) s.payloads n) (sym end) (answering_none docs left doc replies s.payloads store.chain.end s.answering long);
      holds = answered.1;
    }

pub storing_all : (collection : List ℕ) (docs : List Elements) (replies : List Reply) (store : Store) → Storing collection docs [] replies store → (replies ≡ replies_of docs) × IsStore collection (map spelling (stored docs)) store
storing_all collection docs replies store s =
    let all = answering_all docs replies s.payloads store.chain.end s.answering in
    (all.0, subst (λ (ps : List (List ℕ)). IsStore collection ps store) all.1 s.holds)

-- ---- one action after another

pub record Inserting (collection : List ℕ) (actions left : List Action) (replies : List Reply) (store : Store) : Type 0 where
  pub storing : Storing collection (docs_of actions) (docs_of left) replies store
  pub inserts : AreInserts collection left
  pub built : AreBuilt (docs_of left) → AreBuilt (docs_of actions)

pub inserting_first : (collection : List ℕ) (actions : List Action) (replies : List Reply) (store : Store) → AreInserts collection actions → replies ≡ [] → IsStore collection [] store → Inserting collection actions actions replies store
inserting_first collection actions replies store inserts none s = record {
  storing = subst (λ (rs : List Reply). Storing collection (docs_of actions) (docs_of actions) rs store) (sym none) (storing_first collection (docs_of actions) store s);
  inserts = inserts;
  built = λ all. all;
}

-- the next action inserts
pub inserting_next : (collection : List ℕ) (actions : List Action) (i : ℕ) (a : Action) (replies : List Reply) (store : Store) → i < length actions → a ≡ get_or actions i a → Inserting collection actions (drop i actions) replies store → IsInsert collection a
inserting_next collection actions i a replies store inside is s = (subst (AreInserts collection) (cut actions i a inside is) s.inserts).0

inserted : (collection : List ℕ) (actions left : List Action) (a : Action) (replies : List Reply) (store new : Store) (reply : Reply) → Inserting collection actions (a ∷ left) replies store → IsBuilt (doc_of a)
    → ((payloads : List (List ℕ)) → IsStore collection payloads store → IsAnswered collection payloads (spelling (doc_of a)) new reply) → Inserting collection actions left (replies ++ reply ∷ []) new
inserted collection actions left a replies store new reply s built answered = record {
  storing = storing_more collection (docs_of actions) (docs_of left) (doc_of a) (spelling (doc_of a)) replies store new reply s.storing refl (answered s.storing.payloads s.storing.holds);
  inserts = s.inserts.1;
  built = λ all. s.built (built, all);
}

pub inserting_more : (collection : List ℕ) (actions : List Action) (i : ℕ) (a : Action) (replies more : List Reply) (store new : Store) (reply : Reply) → i < length actions → a ≡ get_or actions i a → Inserting collection actions (drop i actions) replies store
    → IsBuilt (doc_of a) → ((payloads : List (List ℕ)) → IsStore collection payloads store → IsAnswered collection payloads (spelling (doc_of a)) new reply) → more ≡ replies ++ reply ∷ []
    → Inserting collection actions (drop (i + 1) actions) more new
inserting_more collection actions i a replies more store new reply inside is s built answered more_is =
    let here = subst (λ (left : List Action). Inserting collection actions left replies store) (cut actions i a inside is) s in
    subst (λ (rs : List Reply). Inserting collection actions (drop (i + 1) actions) rs new) (sym more_is) (inserted collection actions (drop (i + 1) actions) a replies store new reply here built answered)

pub inserting_all : (collection : List ℕ) (actions left : List Action) (replies : List Reply) (store : Store) → left ≡ [] → Inserting collection actions left replies store
    → (replies ≡ replies_of (docs_of actions)) × IsStore collection (map spelling (stored (docs_of actions))) store × AreBuilt (docs_of actions)
inserting_all collection actions left replies store none s =
    let all = subst (λ (rest : List Action). Inserting collection actions rest replies store) none s in
    let answered = storing_all collection (docs_of actions) replies store all.storing in
    (answered.0, answered.1, all.built tt)

-- ---- the file, piece by piece

pub record Reading (file read : List ℕ) : Type 0 where
  pub front : read ≡ take (length read) file
  pub short : length read ≤ file_len

pub reading_more : (file read piece new : List ℕ) → length file ≡ file_len → Reading file read → piece ≡ read_from (length read) (length piece) file → new ≡ read ++ piece → Reading file new
reading_more file read piece new size r is more =
    let len : length new ≡ length read + length piece = ap length more ∙ length-append read piece in
    let rest : length piece ≤ length file - length read = omega (arith, ap length is, length-take {A = ℕ}, length-drop (length read) file) in
    record {
      front = more ∙ ap (λ (xs : List ℕ). xs ++ piece) r.front ∙ ap (λ (xs : List ℕ). take (length read) file ++ xs) is ∙ sym (take-add (length read) (length piece) file) ∙ ap (λ (n : ℕ). take n file) (sym len);
      short = omega (arith, len, rest, r.short, size);
    }

pub reading_all : (file read : List ℕ) → length file ≡ file_len → Reading file read → file_len ≤ length read → read ≡ file
reading_all file read size r all = r.front ∙ take_all (length read) file (omega (arith, size, all))

-- Blocks of a power of two, and the documents that find room one after the other.
use Rattle.std.proofs.Common.{◌≡◌, ℕ, zero, suc, ◌+◌, ◌-◌, ◌*◌, ◌^◌, ◌<◌, ◌≤◌, List, [], ◌∷◌, ◌++◌, length, map, refl, sym, ap, ◌∙◌, arith, cond, le-leb, mul_assoc, append-nil, append_assoc, subst}
use Rattle.std.proofs.Math.Nat.{pow-succ'}
use Rattle.std.proofs.lemmas.Bool.{lt-leb}
use Rattle.mm_bson.specs.Tree.{Elements}
use Rattle.mm_bson.specs.Spelling.{spelling}
use Rattle.mm_main.specs.declared.answers.Reply.{Reply}
use Rattle.mm_main.specs.declared.answers.Reply.TheVariants.{Done, NoSpace}
use Rattle.mm_main.specs.DataFile.{Fit}
use Rattle.mm_main.specs.Room.{doubled_to, first_at, file_len, request, block_len, replies_from, replies_of, stored_by, stored}

-- the block so far, with so many doublings left up to the greatest
pub record Doubling (len block : ℕ) : Type 0 where
  pub left : ℕ
  pub same : doubled_to left block len ≡ doubled_to 17 32 len
  pub power : block * 2 ^ left ≡ 4_194_304
  pub least : 32 ≤ block

pub doubling_first : (len : ℕ) → Doubling len 32
doubling_first len = record { left = 17; same = refl; power = refl; least = omega arith }

doubled_more : (k block len : ℕ) → block < len → doubled_to (suc k) block len ≡ doubled_to k (2 * block) len
unfolding doubled_to
doubled_more k block len short = ap (λ b. cond b block (doubled_to k (2 * block) len)) (lt-leb len block short)

doubled_enough : (k block len : ℕ) → len ≤ block → doubled_to k block len ≡ block
unfolding doubled_to
doubled_enough zero block len fits = refl
doubled_enough (suc k) block len fits = ap (λ b. cond b block (doubled_to k (2 * block) len)) (le-leb len block fits)

doubling_from : (len block left : ℕ) → len ≤ 4_194_304 → block < len → doubled_to left block len ≡ doubled_to 17 32 len → block * 2 ^ left ≡ 4_194_304 → 32 ≤ block → Doubling len (block * 2)
doubling_from len block zero fits short same power least = absurd (omega (arith, power))
doubling_from len block (suc k) fits short same power least = record {
  left = k;
  same = ap (λ b. doubled_to k b len) (omega arith) ∙ sym (doubled_more k block len short) ∙ same;
  power = mul_assoc block 2 (2 ^ k) ∙ ap (λ p. block * p) (sym (pow-succ' 2 k)) ∙ power;
  least = omega arith;
}

pub doubling_more : (len block : ℕ) → len ≤ 4_194_304 → block < len → Doubling len block → Doubling len (block * 2)
doubling_more len block fits short d = doubling_from len block d.left fits short d.same d.power d.least

pub doubling_done : (len block : ℕ) → len ≤ block → Doubling len block → block ≡ doubled_to 17 32 len
doubling_done len block fits d = sym (doubled_enough d.left block len fits) ∙ d.same

-- the replies and the payloads so far, where these documents are left and the blocks end at an offset
pub record Answering (docs left : List Elements) (replies : List Reply) (payloads : List (List ℕ)) (at : ℕ) : Type 0 where
  pub each : replies ++ replies_from at left ≡ replies_of docs
  pub kept : payloads ++ map spelling (stored_by (replies_from at left) left) ≡ map spelling (stored docs)
  pub room : (more : List (List ℕ)) → Fit at more → Fit first_at (payloads ++ more)
  pub inside : at ≤ file_len

pub answering_first : (docs : List Elements) → Answering docs docs [] [] first_at
answering_first docs = record { each = refl; kept = refl; room = λ more fit. fit; inside = omega arith }

pub answering_done : (docs left : List Elements) (doc : Elements) (replies : List Reply) (payloads : List (List ℕ)) (at : ℕ) → Answering docs (doc ∷ left) replies payloads at
    → request (length (spelling doc)) ≤ file_len - at → at + block_len at (length (spelling doc)) ≤ file_len
    → Answering docs left (replies ++ Done ∷ []) (payloads ++ spelling doc ∷ []) (at + block_len at (length (spelling doc)))
answering_done docs left doc replies payloads at a fits inside =
    let here = le-leb (request (length (spelling doc))) (file_len - at) fits in
    let next = at + block_len at (length (spelling doc)) in
    let first : replies_from at (doc ∷ left) ≡ Done ∷ replies_from next left = ap (λ b. cond b (Done ∷ replies_from next left) (NoSpace ∷ replies_from at left)) here in
    record {
      each = append_assoc replies (Done ∷ []) (replies_from next left) ∙ ap (λ rs. replies ++ rs) (sym first) ∙ a.each;
      kept = append_assoc payloads (spelling doc ∷ []) _ ∙ ap (λ rs. payloads ++ map spelling (stored_by rs (doc ∷ left))) (sym first) ∙ a.kept;
      room = λ more fit. subst (λ (ps : List (List ℕ)). Fit first_at ps) (sym (append_assoc payloads (spelling doc ∷ []) more)) (a.room (spelling doc ∷ more) (fits, fit));
      inside = inside;
    }

pub answering_none : (docs left : List Elements) (doc : Elements) (replies : List Reply) (payloads : List (List ℕ)) (at : ℕ) → Answering docs (doc ∷ left) replies payloads at
    → file_len - at < request (length (spelling doc)) → Answering docs left (replies ++ NoSpace ∷ []) payloads at
answering_none docs left doc replies payloads at a long =
    let here = lt-leb (request (length (spelling doc))) (file_len - at) long in
    let first : replies_from at (doc ∷ left) ≡ NoSpace ∷ replies_from at left =
    ap (λ b. cond b (Done ∷ replies_from (at + block_len at (length (spelling doc))) left) (NoSpace ∷ replies_from at left)) here in
    record {
      each = append_assoc replies (NoSpace ∷ []) (replies_from at left) ∙ ap (λ rs. replies ++ rs) (sym first) ∙ a.each;
      kept = ap (λ rs. payloads ++ map spelling (stored_by rs (doc ∷ left))) (sym first) ∙ a.kept;
      room = a.room;
      inside = a.inside;
    }

pub answering_all : (docs : List Elements) (replies : List Reply) (payloads : List (List ℕ)) (at : ℕ) → Answering docs [] replies payloads at → (replies ≡ replies_of docs) × (payloads ≡ map spelling (stored docs))
answering_all docs replies payloads at a = (sym (append-nil replies) ∙ a.each, sym (append-nil payloads) ∙ a.kept)

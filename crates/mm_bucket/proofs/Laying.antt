-- Pairs in their bytes: what is read, what a change elsewhere leaves, and one pair more.
use Rattle.std.proofs.Common.{◌≡◌, ℕ, zero, suc, ◌+◌, ◌*◌, ◌≤◌, List, [], ◌∷◌, ◌++◌, length, refl, sym, ap, ◌∙◌, subst, ap₂, inr, arith}
use Rattle.std.proofs.lemmas.List.{length-append}
use Rattle.std.specs.List.{AllByRecursion}
use Rattle.mm_base.specs.Bytes.{part, overwritten, Puts}
use Rattle.mm_base.specs.Fields.{u32_of}
use Rattle.mm_base.proofs.Parts.{part_front, part_before, part_behind, part-overwritten, length-overwritten}
use Rattle.mm_frames.specs.KeyNode.{key_node_of, key_node_bytes}
use Rattle.mm_frames.specs.declared.key_node.KeyNode.{KeyNode}
use Rattle.mm_bucket.specs.Pairs.{Pair, IsKey, HasKey, key_len}
use Rattle.mm_bucket.specs.Layout.{IsAt, AreAt, Slot, slots, IsWithin, AreApart, Apart, Built, pair_of, pairs_in}
use Rattle.mm_bucket.proofs.Keys.{key_some, key_counted}

pub all_more : {X : Type 0} (P : X → Type 0) (xs : List X) (x : X) → AllByRecursion P xs → P x → AllByRecursion P (xs ++ x ∷ [])
all_more P [] x h p = (p, tt)
all_more P (y ∷ ys) x h p = (h.0, all_more P ys x h.1 p)

pub all_map : {X : Type 0} (P Q : X → Type 0) (xs : List X) → ((x : X) → P x → Q x) → AllByRecursion P xs → AllByRecursion Q xs
all_map P Q [] f h = tt
all_map P Q (x ∷ xs) f h = (f x h.0, all_map P Q xs f h.1)

pub apart_more : (ss : List Slot) (s : Slot) → Apart ss → AllByRecursion (λ t. AreApart t s) ss → Apart (ss ++ s ∷ [])
apart_more [] s a h = (tt, tt)
apart_more (t ∷ ts) s a h = (all_more (AreApart t) ts s a.0 h.0, apart_more ts s a.1 h.1)

-- the node at some place
abbrev pub node_at : List ℕ → ℕ → KeyNode
node_at bytes at = key_node_of (part at 18 bytes)

-- the parts between these two ends are the same
abbrev pub SameWithin : List ℕ → List ℕ → ℕ → ℕ → Type 0
SameWithin old new from to = (q n : ℕ) → from ≤ q → q + n ≤ to → part q n new ≡ part q n old

pub slots_same : (old new : List ℕ) (at : ℕ) (ps : List Pair) → SameWithin old new at (at + 18 * length ps) → slots new at ps ≡ slots old at ps
slots_same old new at [] s = refl
slots_same old new at (p ∷ ps) s =
    ap₂ (λ (n : KeyNode) (ss : List Slot). (n.key_ofs, length p.key) ∷ ss) (ap key_node_of (s at 18 (omega arith) (omega arith)))
    (slots_same old new (at + 18) ps (λ q n l r. s q n (omega arith) (omega arith)))

-- pairs stay where their nodes and keys stay
pub laid_same : (old new : List ℕ) (at begin : ℕ) (ps : List Pair) → SameWithin old new at (at + 18 * length ps) → SameWithin old new (40 + begin) 8192
    → AllByRecursion (IsWithin begin 8152) (slots old at ps) → AreAt old at ps → AreAt new at ps
laid_same old new at begin [] s t w h = tt
laid_same old new at begin (p ∷ ps) s t w h =
    let same : node_at old at ≡ node_at new at = sym (ap key_node_of (s at 18 (omega arith) (omega arith))) in
    let one : IsAt new (node_at old at) p = record {
      left = h.0.left;
      rec = h.0.rec;
      key = t (40 + (node_at old at).key_ofs) (length p.key) (omega (arith, w.0.0)) (omega (arith, w.0.1)) ∙ h.0.key;
    } in
    (subst (λ (n : KeyNode). IsAt new n p) same one, laid_same old new (at + 18) begin ps (λ q n l r. s q n (omega arith) (omega arith)) t w.1 h.1)

behind_first : (at n : ℕ) → at + 18 + 18 * n ≡ at + 18 * suc n
behind_first at n = omega arith

-- one more pair behind the others
pub laid_more : (bytes : List ℕ) (at : ℕ) (ps : List Pair) (p : Pair) → AreAt bytes at ps → IsAt bytes (node_at bytes (at + 18 * length ps)) p → AreAt bytes at (ps ++ p ∷ [])
laid_more bytes at [] p h k = (subst (λ (z : ℕ). IsAt bytes (node_at bytes z) p) (let e : at + 18 * 0 ≡ at = omega arith in e) k, tt)
laid_more bytes at (q ∷ ps) p h k =
    (h.0, laid_more bytes (at + 18) ps p h.1 (subst (λ (z : ℕ). IsAt bytes (node_at bytes z) p) (sym (behind_first at (length ps))) k))

pub slots_more : (bytes : List ℕ) (at : ℕ) (ps : List Pair) (p : Pair) → slots bytes at (ps ++ p ∷ []) ≡ slots bytes at ps ++ ((node_at bytes (at + 18 * length ps)).key_ofs, length p.key) ∷ []
slots_more bytes at [] p = ap (λ (z : ℕ). ((node_at bytes z).key_ofs, length p.key) ∷ []) (let e : at ≡ at + 18 * 0 = omega arith in e)
slots_more bytes at (q ∷ ps) p =
    ap (λ (ss : List Slot). ((node_at bytes at).key_ofs, length q.key) ∷ ss)
    (slots_more bytes (at + 18) ps p ∙ ap (λ (z : ℕ). slots bytes (at + 18) ps ++ ((node_at bytes z).key_ofs, length p.key) ∷ []) (behind_first at (length ps)))

pub key_len_more : (ps : List Pair) (p : Pair) → key_len (ps ++ p ∷ []) ≡ key_len ps + length p.key
key_len_more [] p = omega arith
key_len_more (q ∷ ps) p = omega (arith, key_len_more ps p)

-- ---- what is read

pub read_one : (bytes : List ℕ) (node : KeyNode) (p : Pair) → IsKey p.key → IsAt bytes node p → pair_of bytes node ≡ p
unfolding pair_of
read_one bytes node p k h =
    let at = 40 + node.key_ofs in
    let len : u32_of (part at 4 bytes) ≡ length p.key =
    ap u32_of (sym (part_front 4 at (length p.key) bytes (omega (arith, key_some p.key k))) ∙ ap (part 0 4) h.key) ∙ key_counted p.key k in
    let key : part at (u32_of (part at 4 bytes)) bytes ≡ p.key = ap (λ (n : ℕ). part at n bytes) len ∙ h.key in
    λ i. record { left = h.left i; rec = h.rec i; key = key i }

pub read_all : (bytes : List ℕ) (at : ℕ) (ps : List Pair) → AllByRecursion HasKey ps → AreAt bytes at ps → pairs_in bytes at (length ps) ≡ ps
read_all bytes at [] k h = refl
read_all bytes at (p ∷ ps) k h = ap₂ (λ (x : Pair) (xs : List Pair). x ∷ xs) (read_one bytes (node_at bytes at) p k.0 h.0) (read_all bytes (at + 18) ps k.1 h.1)

pub length-pairs_in : (bytes : List ℕ) (at n : ℕ) → length (pairs_in bytes at n) ≡ n
length-pairs_in bytes at zero = refl
length-pairs_in bytes at (suc n) = ap suc (length-pairs_in bytes (at + 18) n)

-- ---- a pair is put behind the others

-- what two writes, of the key and of the node, leave
pub record Put (old new : List ℕ) (n begin first : ℕ) (p : Pair) : Type 0 where
  pub whole : length new ≡ 8192
  pub node : node_at new (40 + 18 * n) ≡ record { left = p.left; rec = p.rec; key_ofs = first }
  pub key : part (40 + first) (length p.key) new ≡ p.key
  pub nodes : SameWithin old new 40 (40 + 18 * n)
  pub keys : SameWithin old new (40 + begin) 8192

-- a slot in front of all others
in_front : (begin first k : ℕ) (ss : List Slot) → first + k ≡ begin → AllByRecursion (IsWithin begin 8152) ss → AllByRecursion (λ t. AreApart t (first, k)) ss
in_front begin first k ss e w = all_map (IsWithin begin 8152) (λ t. AreApart t (first, k)) ss (λ t h. inr (omega (arith, e, h.0))) w

pub pushed : (old new : List ℕ) (n begin first : ℕ) (p : Pair) (ps : List Pair) → Put old new n begin first p → IsKey p.key → first + length p.key ≡ begin → 18 * (n + 1) ≤ first
    → Built old n begin ps → Built new (n + 1) first (ps ++ p ∷ [])
pushed old new n begin first p ps w k ends room b =
    let l = b.laid in
    let len : length (ps ++ p ∷ []) ≡ length ps + 1 = length-append ps (p ∷ []) in
    let nodes : SameWithin old new 40 (40 + 18 * length ps) = subst (λ (z : ℕ). SameWithin old new 40 (40 + 18 * z)) b.many w.nodes in
    let here : node_at new (40 + 18 * length ps) ≡ record { left = p.left; rec = p.rec; key_ofs = first } = subst (λ (z : ℕ). node_at new (40 + 18 * z) ≡ record { left = p.left; rec = p.rec; key_ofs = first }) b.many w.node in
    let one : IsAt new (record { left = p.left; rec = p.rec; key_ofs = first }) p = record { left = refl; rec = refl; key = w.key } in
    let stay : slots new 40 ps ≡ slots old 40 ps = slots_same old new 40 ps nodes in
    let all : slots new 40 (ps ++ p ∷ []) ≡ slots old 40 ps ++ (first, length p.key) ∷ [] =
    slots_more new 40 ps p ∙ ap₂ (λ (ss : List Slot) (x : KeyNode). ss ++ (x.key_ofs, length p.key) ∷ []) stay here in
    let lower : AllByRecursion (IsWithin first 8152) (slots old 40 ps) = all_map (IsWithin begin 8152) (IsWithin first 8152) (slots old 40 ps) (λ s h. (omega (arith, ends, h.0), h.1)) l.within in
    record {
      many = omega (arith, len, b.many);
      laid = record {
        whole = w.whole;
        nodes = laid_more new 40 ps p (laid_same old new 40 begin ps nodes w.keys l.within l.nodes) (subst (λ (x : KeyNode). IsAt new x p) (sym here) one);
        keys = all_more HasKey ps p l.keys k;
        begins = omega (arith, key_len_more ps p, l.begins, ends);
        room = omega (arith, len, room, b.many);
        within = subst (AllByRecursion (IsWithin first 8152)) (sym all) (all_more (IsWithin first 8152) (slots old 40 ps) (first, length p.key) lower (omega arith, omega (arith, ends, l.begins)));
        apart = subst Apart (sym all) (apart_more (slots old 40 ps) (first, length p.key) l.apart (in_front begin first (length p.key) (slots old 40 ps) ends l.within));
      };
    }

-- the two writes
pub put_both : (old mid new : List ℕ) (n begin first : ℕ) (p : Pair) → length old ≡ 8192 → first + length p.key ≡ begin → 18 * (n + 1) ≤ first → begin ≤ 8152
    → mid ≡ overwritten (40 + first) p.key old → Puts 18 key_node_bytes key_node_of (40 + 18 * n) (record { left = p.left; rec = p.rec; key_ofs = first }) mid new → Put old new n begin first p
put_both old mid new n begin first p whole ends room le key node =
    let k = length p.key in
    let mid_len : length mid ≡ 8192 = ap length key ∙ (length-overwritten (40 + first) p.key old (omega (arith, whole, ends)) ∙ whole) in
    let new_len : length new ≡ 8192 = ap length node.spelled ∙ (length-overwritten (40 + 18 * n) _ mid (omega (arith, mid_len, node.long)) ∙ mid_len) in
    record {
      whole = new_len;
      node = node.again;
      key = node.elsewhere.behind (40 + first) k (omega arith) ∙ (ap (part (40 + first) k) key ∙ part-overwritten (40 + first) k p.key old (omega (arith, whole, ends)) refl);
      nodes = λ q m l r. node.elsewhere.before q m r ∙ (ap (part q m) key ∙ part_before q m (40 + first) p.key old (omega arith) (omega (arith, whole, ends)));
      keys = λ q m l r. node.elsewhere.behind q m (omega (arith, ends)) ∙ (ap (part q m) key ∙ part_behind q m (40 + first) p.key old (omega (arith, ends)) (omega (arith, whole, ends)));
    }

-- ---- what is built is what is read

pub view_of : (bytes : List ℕ) (n begin : ℕ) (ps : List Pair) → Built bytes n begin ps → pairs_in bytes 40 n ≡ ps
view_of bytes n begin ps b = ap (pairs_in bytes 40) b.many ∙ read_all bytes 40 ps b.laid.keys b.laid.nodes

pub built_of : (bytes : List ℕ) (n begin : ℕ) (ps : List Pair) → Built bytes n begin ps → Built bytes n begin (pairs_in bytes 40 n)
built_of bytes n begin ps b = subst (Built bytes n begin) (sym (view_of bytes n begin ps b)) b

pub room_for : (bytes : List ℕ) (n begin : ℕ) (ps : List Pair) (p : Pair) → Built bytes n begin ps → 18 * length (ps ++ p ∷ []) + key_len (ps ++ p ∷ []) ≤ 8152 → 18 * (n + 1) + length p.key ≤ begin
room_for bytes n begin ps p b f = omega (arith, f, b.many, b.laid.begins, key_len_more ps p, length-append ps (p ∷ []))

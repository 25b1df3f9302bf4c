-- A node's bytes, and where they are written.
use Rattle.std.proofs.Common.{◌≡◌, ◌≢◌, ℕ, ◌+◌, ◌*◌, ◌%◌, ◌^◌, ◌<◌, List, length, Result, Ok, Err, refl, sym, ◌∙◌, ap, subst, arith, length-append}
use Rattle.std.specs.Prelude.{IfOk, OnOk, bit_and}
use Rattle.std.proofs.lemmas.Nat.{or_lt, and_le_r}
use Rattle.std.proofs.Math.Nat.{mod-lt}
use Rattle.mm_base.specs.Bytes.{padded}
use Rattle.mm_base.specs.Names.{IsName}
use Rattle.mm_base.proofs.NameLaws.{length-padded}
use Rattle.mm_base.proofs.TableLaws.{length-joined}
use Rattle.mm_ranges.specs.declared.limits.TheConstants.{NS_FILE}
use Rattle.mm_views.specs.State.{Drafting}
use Rattle.mm_frames.specs.NodeHead.{node_head_table, node_head_bytes}
use Rattle.mm_frames.specs.Details.{details_bytes}
use Rattle.mm_frames.specs.declared.node_head.NodeHead.{NodeHead}
use Rattle.mm_frames.specs.declared.details.Details.{Details}
use Rattle.mm_nstable.specs.Hash.{number_of, hash_of}
use Rattle.mm_nstable.specs.Nodes.{count_of, node_at}
use Rattle.mm_nstable.specs.Table.{IsFirstFree}
use Rattle.mm_nstable.specs.Changes.{ns_of, written_at, node_bytes}
use Rattle.mm_nstable.proofs.Stored.{node_inside}
use Rattle.mm_nstable.proofs.Written.{stored_whole}
use Rattle.mm_extents.specs.Changes.{len_of}
use Rattle.mm_extents.proofs.Writes.{len_laid}

hash_short : (name : List ℕ) → hash_of name < 2 ^ 32
unfolding hash_of
hash_short name =
    let least = and_le_r (number_of name % 2 ^ 32) 0x7fffffff in
    or_lt 32 (bit_and (number_of name % 2 ^ 32) 0x7fffffff) 0x08000000 (omega (arith, least)) (omega arith)

-- a node's head and its details are a whole node
pub length-node_bytes : (name : List ℕ) (d : Details) → IsName name → length (details_bytes d) ≡ 496 → length (node_bytes name d) ≡ 628
unfolding node_head_bytes
length-node_bytes name d is long =
    let short = is.short in
    let field : length (padded 128 name) ≡ 128 = length-padded 128 name (omega (arith, short)) in
    let h : NodeHead = record { hash = hash_of name; name = padded 128 name } in
    let head : length (node_head_bytes h) ≡ 132 = length-joined 132 (node_head_table h) refl (hash_short name, (field, tt)) in
    length-append (node_head_bytes h) (details_bytes d) ∙ omega (arith, head, long)

-- the first free node of a search is there
pub free_there : (bytes name : List ℕ) (node : ℕ) → IsFirstFree bytes name node → node < count_of bytes
free_there bytes name node f =
    let there = f.there in
    let positive : 0 < count_of bytes = omega (arith, there) in
    subst (λ (k : ℕ). k < count_of bytes) (sym f.is) (mod-lt (hash_of name % count_of bytes + f.step) positive)

-- no file becomes longer or shorter
pub node_lengths : (d d' : Drafting) (node : ℕ) (bytes : List ℕ) → node < count_of (ns_of d) → length bytes ≡ 628 → d' ≡ written_at (628 * node) bytes d → (f : ℕ) → len_of d'.image f ≡ len_of d.image f
node_lengths d d' node bytes lt long e f =
    let inside = node_inside (ns_of d) node lt in
    ap (λ (x : Drafting). len_of x.image f) e ∙ len_laid d.image NS_FILE (628 * node) bytes f (omega (arith, long)) (omega (arith, inside, long))

-- the other nodes stay
pub node_others : (d d' : Drafting) (node : ℕ) (bytes : List ℕ) → node < count_of (ns_of d) → length bytes ≡ 628 → d' ≡ written_at (628 * node) bytes d → (k : ℕ) → k < count_of (ns_of d) → k ≢ node → node_at (ns_of d') k ≡ node_at (ns_of d) k
node_others d d' node bytes lt long e k less ne = (stored_whole d d' node bytes lt long e).other k less ne

pub ok_both : {T E : Type 0} {P Q R : T → Type 0} (r : Result T E) → IfOk r P → IfOk r Q → ((x : T) → P x → Q x → R x) → IfOk r R
ok_both (Ok x) p q f = f x p q
ok_both (Err e) p q f = tt

pub on_both : {T E : Type 0} {P Q : T → Type 0} {R : Type 0} (r : Result T E) → IfOk r P → IfOk r Q → ((x : T) → P x → Q x → R) → OnOk r R
on_both (Ok x) p q f = f x p q
on_both (Err e) p q f = tt

pub holds_of : {T E : Type 0} {P R : T → Type 0} (r : Result T E) → IfOk r P → ((x : T) → P x → R x) → IfOk r R
holds_of (Ok x) p f = f x p
holds_of (Err e) p f = tt

pub on_of : {T E : Type 0} {P : T → Type 0} {R : Type 0} (r : Result T E) → IfOk r P → ((x : T) → P x → R) → OnOk r R
on_of (Ok x) p f = f x p
on_of (Err e) p f = tt

pub both_on : {T E : Type 0} {P : T → Type 0} {Q S : Type 0} {R : T → Type 0} (r : Result T E) → IfOk r P → OnOk r Q → OnOk r S → ((x : T) → P x → Q → S → R x) → IfOk r R
both_on (Ok x) p q s f = f x p q s
both_on (Err e) p q s f = tt

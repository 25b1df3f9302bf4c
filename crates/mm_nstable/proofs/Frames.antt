-- The bytes of a used node, and what they say.
use Rattle.std.proofs.Common.{◌≡◌, ℕ, false, List, ◌++◌, length, refl, sym, ◌∙◌, ap, subst, arith, length-append}
use Rattle.std.specs.Prelude.{replicate}
use Rattle.mm_base.specs.Bytes.{overwritten, padded, zeros, Puts}
use Rattle.mm_base.specs.Names.{IsName}
use Rattle.mm_base.proofs.Parts.{overwritten_on, overwritten_whole}
use Rattle.mm_frames.specs.NodeHead.{node_head_of, node_head_bytes}
use Rattle.mm_frames.specs.Details.{details_of, details_bytes}
use Rattle.mm_frames.specs.declared.node_head.NodeHead.{NodeHead}
use Rattle.mm_frames.specs.declared.details.Details.{Details}
use Rattle.mm_nstable.specs.Hash.{hash_of}
use Rattle.mm_nstable.specs.Nodes.{head_in, name_in, details_in, is_free, IsNamed}
use Rattle.mm_nstable.proofs.Numbers.{hash_some}
use Rattle.mm_nstable.proofs.Tables.{text-padded, not_free}

pub zeros_are : replicate 628 0 ≡ zeros 628
unfolding zeros
zeros_are = refl

module _ (h : NodeHead) (d : Details) (f0 f1 f2 : List ℕ) (head : Puts 132 node_head_bytes node_head_of 0 h f0 f1) (details : Puts 496 details_bytes details_of 132 d f1 f2) where
  pub frame_is : length f0 ≡ 628 → f2 ≡ node_head_bytes h ++ details_bytes d
  frame_is len =
      let long = head.long in
      let long' = details.long in
      let on : overwritten 132 (details_bytes d) (overwritten 0 (node_head_bytes h) f0) ≡ overwritten 0 (node_head_bytes h ++ details_bytes d) f0 = overwritten_on 0 132 (node_head_bytes h) (details_bytes d) f0 long (omega (arith, len)) in
      details.spelled ∙ ap (overwritten 132 (details_bytes d)) head.spelled ∙ on
      ∙ overwritten_whole (node_head_bytes h ++ details_bytes d) f0 (length-append (node_head_bytes h) (details_bytes d) ∙ omega (arith, long, long', len))

  pub frame_head : head_in f2 ≡ h
  unfolding head_in
  frame_head = ap node_head_of (details.elsewhere.before 0 132 (omega arith)) ∙ head.again

  pub frame_details : details_in f2 ≡ d
  unfolding details_in
  frame_details = details.again

  pub frame_name : (name : List ℕ) → IsName name → h.name ≡ padded 128 name → name_in f2 ≡ name
  frame_name name is e = text-padded (head_in f2).name name is (ap (λ (x : NodeHead). x.name) frame_head ∙ e)

  pub frame_named : (name : List ℕ) → IsName name → h.hash ≡ hash_of name → h.name ≡ padded 128 name → IsNamed f2
  frame_named name is eh en =
      let named = frame_name name is en in
      record {
        name = subst IsName (sym named) is;
        field = ap (λ (x : NodeHead). x.name) frame_head ∙ en ∙ ap (padded 128) (sym named);
        hash = ap (λ (x : NodeHead). x.hash) frame_head ∙ eh ∙ ap hash_of (sym named);
      }

  pub frame_used : (name : List ℕ) → h.hash ≡ hash_of name → is_free f2 ≡ false
  frame_used name eh = not_free (head_in f2).hash (hash_of name) (ap (λ (x : NodeHead). x.hash) frame_head ∙ eh) (hash_some name)

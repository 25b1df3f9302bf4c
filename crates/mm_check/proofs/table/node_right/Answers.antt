use Rattle.std.proofs.Common.{◌≡◌, ℕ, true, false, length, sym, ap, ◌∙◌, rules}
use Rattle.std.specs.Prelude.{◌&&◌, ◌==◌, not}
use Rattle.std.specs.BTreeSet.{contains}
use Rattle.std.specs.Ordering.{nat_cmp}
use Rattle.std.specs.Cmp.Lexicographic.{slice_cmp}
use Rattle.std.proofs.lemmas.Bool.{false≢true}
use Rattle.mm_base.specs.Bytes.{padded}
use Rattle.mm_frames.specs.declared.node_head.NodeHead.{NodeHead}
use Rattle.mm_nstable.specs.Hash.{hash_of}
use Rattle.mm_nstable.specs.Nodes.{node_at, head_in, is_free}
use Rattle.mm_nstable.proofs.Loops.{not_zero}
use Rattle.mm_records.specs.Stands.{ns_in}
use Rattle.mm_check.specs.NodeQuestions.{has_form, has_name}
use Rattle.mm_check.proofs.RecordLaws.{eq_of}
use Rattle.mm_check.proofs.SeenLaws.{seen_free, seen_more, right_free, right_named, right_unnamed}
use Rattle.mm_check.proofs.Results.{ok_mapped}
use Rattle.mm_check.proofs.table.node_right.Goals as goal

pub returns-then-head-eq0 : goal.returns-then-head-eq0
returns-then-head-eq0 c =
    let ns = ns_in c.args.views.now.private in
    let free : is_free (node_at (ns_in c.args.views.now.private) c.args.node) ≡ true = ap (λ (h : NodeHead). h.hash == 0) (sym c.node_head-head.ensures) ∙ eq_of c.node_head-head.result.hash 0 c.if-head-eq0.true in
    record { right = λ d f. sym (right_free d ns c.args.node free); seen = λ e. seen_free ns c.args.node c.args.seen.now free c.requires.seen }

pub returns-in-None : goal.returns-in-None
returns-in-None c =
    let ns = ns_in c.args.views.now.private in
    let used : is_free (node_at (ns_in c.args.views.now.private) c.args.node) ≡ false = ap (λ (h : NodeHead). h.hash == 0) (sym c.node_head-head.ensures) ∙ not_zero c.node_head-head.result.hash c.if-head-eq0.false in
    let long : length c.node_head-head.result.name ≡ 128 = search rules in
    record {
      right = λ d f. sym (right_unnamed d ns c.args.node used (λ name is e. c.in-None.ensures.none name is (ap (λ (h : NodeHead). h.name) c.node_head-head.ensures ∙ e ∙ ap (λ (n : ℕ). padded n name) (sym long))));
      seen = λ e. absurd (false≢true e);
    }

pub returns-in-Some : goal.returns-in-Some
returns-in-Some c =
    let ns = ns_in c.args.views.now.private in
    let name = c.in-Some.name in
    let used : is_free (node_at (ns_in c.args.views.now.private) c.args.node) ≡ false = ap (λ (h : NodeHead). h.hash == 0) (sym c.node_head-head.ensures) ∙ not_zero c.node_head-head.result.hash c.if-head-eq0.false in
    let long : length c.node_head-head.result.name ≡ 128 = search rules in
    let field : c.node_head-head.result.name ≡ padded 128 c.in-Some.name = c.in-Some.ensures.some.1 ∙ ap (λ (n : ℕ). padded n c.in-Some.name) long in
    let here : (head_in (node_at (ns_in c.args.views.now.private) c.args.node)).name ≡ padded 128 c.in-Some.name = ap (λ (h : NodeHead). h.name) (sym c.node_head-head.ensures) ∙ field in
    let known : contains (slice_cmp nat_cmp) c.args.seen.now c.node_head-head.result.name ≡ has_name (ns_in c.args.views.now.private) c.args.node c.in-Some.name = ap (contains (slice_cmp nat_cmp) c.args.seen.now) field ∙ c.requires.seen c.in-Some.name c.in-Some.ensures.some.0 in
    record {
      right = ok_mapped c.named_right.result _ _
          (λ x h d f. h d f ∙ (λ j. has_form d name && (((c.node_head-head.ensures j).hash == hash_of name) && not (known j))) ∙ sym (right_named d ns c.args.node name used c.in-Some.ensures.some.0 here)) c.named_right.ensures.right;
      seen = ok_mapped c.named_right.result _ _
          (λ x h e. seen_more ns c.args.node c.args.seen.now c.named_right.new.seen c.node_head-head.result.name name used c.in-Some.ensures.some.0 (ap (λ (h : NodeHead). h.name) c.node_head-head.ensures) field (h e) c.requires.seen) c.named_right.ensures.seen;
    }

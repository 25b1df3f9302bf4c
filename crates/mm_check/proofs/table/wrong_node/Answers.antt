use Rattle.std.proofs.Common.{◌≡◌, ℕ, ◌<◌, ◌≤◌, true, false, List, Some, sym, ap, ◌∙◌, subst, arith}
use Rattle.std.specs.BTreeSet.{BTreeSet}
use Rattle.mm_ranges.specs.declared.limits.TheConstants.{NS_FILE}
use Rattle.mm_nstable.specs.Nodes.{count_of}
use Rattle.mm_records.specs.Stands.{ns_in}
use Rattle.mm_check.specs.NodeQuestions.{free_name, indexes_name, node_right}
use Rattle.mm_check.specs.SeenNames.{KnowsNames}
use Rattle.mm_check.proofs.SeenLaws.{seen_none}
use Rattle.mm_check.proofs.NodeLoops.{node_wrong, names_all, free_missing, indexes_missing, none_missing, right_next, seen_name}
use Rattle.mm_check.proofs.table.wrong_node.Goals as goal

pub loop-node-init : goal.loop-node-init
loop-node-init c = record { seen = seen_none (ns_in c.args.views.now.private) c.new-seen.result c.new-seen.ensures.empty; right = λ d f j lt. absurd (omega (arith, lt)) }

pub node_right-requires : goal.node_right-requires
node_right-requires c = record { there = subst (λ (n : ℕ). c.loop-node.node < n) c.node_count-node-end.ensures c.loop-node-test.true; seen = c.loop-node.invariant.seen }

pub returns-then-not-branch : goal.returns-then-not-branch
returns-then-not-branch c = λ d f.
    let ns = ns_in c.args.views.now.private in
    let lt = subst (λ (n : ℕ). c.loop-node.node < n) c.node_count-node-end.ensures c.loop-node-test.true in
    ap (λ (n : ℕ). Some (NS_FILE, n)) c.node_ofs.ensures.is
    ∙ sym (node_wrong d ns c.loop-node.node lt (c.loop-node.invariant.right d f) (sym (c.in_ok-node_right.ensures.right d f) ∙ c.if-not-branch.true))

pub loop-node-preserved : goal.loop-node-preserved
loop-node-preserved c =
    record {
      seen = c.in_ok-node_right.ensures.seen c.if-not-branch.false;
      right = λ d f. right_next d (ns_in c.args.views.now.private) c.loop-node.node (c.loop-node.invariant.right d f) (sym (c.in_ok-node_right.ensures.right d f) ∙ c.if-not-branch.false);
    }

-- what the loop has come to, at its end
all_right : (d bytes : List ℕ) (node end : ℕ) → end ≡ count_of bytes → end ≤ node → ((j : ℕ) → j < node → node_right d bytes j ≡ true) → (j : ℕ) → j < count_of bytes → node_right d bytes j ≡ true
all_right d bytes node end e ge f j lt = f j (omega (arith, e, ge, lt))

all_known : (bytes : List ℕ) (set : BTreeSet (List ℕ)) (node end : ℕ) → end ≡ count_of bytes → end ≤ node → node ≤ end → KnowsNames bytes node set → KnowsNames bytes (count_of bytes) set
all_known bytes set node end e ge le k = let same : node ≡ count_of bytes = omega (arith, e, ge, le) in subst (λ (n : ℕ). KnowsNames bytes n set) same k

pub returns-then-not-is_seen : goal.returns-then-not-is_seen
returns-then-not-is_seen c = λ d f.
    let ns = ns_in c.args.views.now.private in
    let right = all_right d ns c.loop-node.node _ c.node_count-node-end.ensures c.loop-node-test.false (c.loop-node.invariant.right d f) in
    let known = all_known ns c.loop-node.seen c.loop-node.node _ c.node_count-node-end.ensures c.loop-node-test.false c.loop-node.auto.node-end c.loop-node.invariant.seen in
    sym (free_missing d ns right (seen_name ns c.deref.result.now (free_name d) c.is_seen.result false (c.deref.ensures.value ∙ f.free) (c.is_seen.ensures ns known (names_all d ns right)) c.if-not-is_seen.true))

pub returns-then-not-is_seen-2 : goal.returns-then-not-is_seen-2
returns-then-not-is_seen-2 c = λ d f.
    let ns = ns_in c.args.views.now.private in
    let right = all_right d ns c.loop-node.node _ c.node_count-node-end.ensures c.loop-node-test.false (c.loop-node.invariant.right d f) in
    let known = all_known ns c.loop-node.seen c.loop-node.node _ c.node_count-node-end.ensures c.loop-node-test.false c.loop-node.auto.node-end c.loop-node.invariant.seen in
    sym (indexes_missing d ns right (seen_name ns c.deref.result.now (free_name d) c.is_seen.result true (c.deref.ensures.value ∙ f.free) (c.is_seen.ensures ns known (names_all d ns right)) c.if-not-is_seen.false)
    (seen_name ns c.deref-2.result.now (indexes_name d) c.is_seen-2.result false (c.deref-2.ensures.value ∙ f.indexes) (c.is_seen-2.ensures ns known (names_all d ns right)) c.if-not-is_seen-2.true))

pub returns : goal.returns
returns c = λ d f.
    let ns = ns_in c.args.views.now.private in
    let right = all_right d ns c.loop-node.node _ c.node_count-node-end.ensures c.loop-node-test.false (c.loop-node.invariant.right d f) in
    let known = all_known ns c.loop-node.seen c.loop-node.node _ c.node_count-node-end.ensures c.loop-node-test.false c.loop-node.auto.node-end c.loop-node.invariant.seen in
    sym (none_missing d ns right (seen_name ns c.deref.result.now (free_name d) c.is_seen.result true (c.deref.ensures.value ∙ f.free) (c.is_seen.ensures ns known (names_all d ns right)) c.if-not-is_seen.false)
    (seen_name ns c.deref-2.result.now (indexes_name d) c.is_seen-2.result true (c.deref-2.ensures.value ∙ f.indexes) (c.is_seen-2.ensures ns known (names_all d ns right)) c.if-not-is_seen-2.false))

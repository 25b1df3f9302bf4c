use Rattle.std.proofs.Common.{◌≡◌, ℕ, ◌<◌, ◌+◌, List, ◌++◌, ◌∷◌, [], Vec, Global, map, drop, get_or, sym, ap, ◌∙◌, subst}
use Rattle.std.proofs.lemmas.List.{map-append, at_drop_all}
use Rattle.mm_links.specs.Links.{Place}
use Rattle.mm_records.specs.Constants.{is_name}
use Rattle.mm_check.specs.Findings.{Owner, name_of, owners_of, without_free}
use Rattle.mm_check.specs.NodeQuestions.{free_name}
use Rattle.mm_check.specs.Phases.{owner_of}
use Rattle.mm_check.specs.declared.owners.Owned.{Owned}
use Rattle.mm_check.proofs.Chained.{put_first, put_none, none_left}
use Rattle.mm_check.proofs.PhaseLoops.{owned_here, kept_here, left_here}
use Rattle.mm_check.proofs.owners.without.Goals as goal
use Rattle.mm_check.proofs.owners.without.Goals.{then-not-is_named+in_ok-push, else-not-is_named}

pub loop-i-init : goal.loop-i-init
loop-i-init c d e = ap (λ (xs : List Owned). map owner_of xs ++ without_free d c.args.views.now.private (owners_of c.args.nodes.now (map (λ ps. ps.items) c.args.chains.now))) c.new-owners.ensures.items

pub loop-i-preserved : goal.loop-i-preserved
loop-i-preserved c d e =
    let image = c.args.views.now.private in
    let node = get_or c.args.nodes.now c.loop-i.i 0 in
    let left : List Owner = owners_of (drop c.loop-i.i c.args.nodes.now) (map {A = Vec (ℕ × ℕ) Global} (λ ps. ps.items) (drop c.loop-i.i c.args.chains.now)) in
    let next : List Owner = owners_of (drop (c.loop-i.i + 1) c.args.nodes.now) (map {A = Vec (ℕ × ℕ) Global} (λ ps. ps.items) (drop (c.loop-i.i + 1) c.args.chains.now)) in
    let all : List Owner = without_free d c.args.views.now.private (owners_of c.args.nodes.now (map {A = Vec (ℕ × ℕ) Global} (λ ps. ps.items) c.args.chains.now)) in
    let here = owned_here {V = Vec (ℕ × ℕ) Global} (λ ps. ps.items) c.args.nodes.now c.args.chains.now c.loop-i.i c.index-chains-i.result c.loop-i-test.true (subst (λ (n : ℕ). c.loop-i.i < n) c.requires.chains c.loop-i-test.true) c.index-chains-i.is in
    let test : is_name (name_of image (get_or c.args.nodes.now c.loop-i.i 0)) (free_name d) ≡ c.is_named.result = ap (is_name (name_of image (get_or c.args.nodes.now c.loop-i.i 0))) (sym e) ∙ sym c.is_named.ensures in
    elim c.if-not-is_named.branch [
      | then-not-is_named+in_ok-push w ↦
          put_first (map owner_of c.loop-i.owners.items) (map owner_of c.if-not-is_named.owners.items) (without_free d image left) (without_free d image next) all (record { node = node; extents = c.index-chains-i.result.items }) (c.loop-i.invariant d e)
          (kept_here d image (record { node = node; extents = c.index-chains-i.result.items }) left next here (test ∙ w.if-not-is_named.true))
          ((λ j. map owner_of (w.owners-is j).items) ∙ ap (map owner_of) w.in_ok-push.ensures.items ∙ map-append owner_of c.loop-i.owners.items (record { node = node; extents = c.deref-extents.result } ∷ [])
          ∙ ap (λ (ps : List Place). map owner_of c.loop-i.owners.items ++ record { node = node; extents = ps } ∷ []) c.deref-extents.ensures.value)
      | else-not-is_named w ↦
          ap (λ (v : Vec Owned Global). map owner_of v.items ++ without_free d image next) w.owners-is
          ∙ put_none (map owner_of c.loop-i.owners.items) (without_free d image left) (without_free d image next) all (c.loop-i.invariant d e) (left_here d image (record { node = node; extents = c.index-chains-i.result.items }) left next here (test ∙ w.if-not-is_named.false))
    ]

pub returns : goal.returns
returns c d e =
    none_left (map owner_of c.loop-i.owners.items) (without_free d c.args.views.now.private (owners_of (drop c.loop-i.i c.args.nodes.now) (map (λ ps. ps.items) (drop c.loop-i.i c.args.chains.now)))) _ (c.loop-i.invariant d e)
    (at_drop_all (λ (ks : List ℕ). without_free d c.args.views.now.private (owners_of ks (map (λ ps. ps.items) (drop c.loop-i.i c.args.chains.now)))) c.args.nodes.now c.loop-i.i c.loop-i-test.false)

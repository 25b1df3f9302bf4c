use Rattle.std.proofs.Common.{◌≡◌, ◌-◌, List, ◌++◌, ◌∷◌, [], take, drop, ap, ◌∙◌, sym, subst, arith, append_assoc}
use Rattle.mm_bucket.specs.Pairs.{Pair, Fits, pair_at}
use Rattle.mm_bucket.proofs.Fitting.{fits_next, more_taken}
use Rattle.mm_bucket.proofs.builder.Builder.append.Goals as goal

-- the pair that was read is the one there
same_pair : (p q : Pair) → p.left ≡ q.left → p.rec ≡ q.rec → p.key ≡ q.key → p ≡ q
same_pair p q a b c = λ i. record { left = a i; rec = b i; key = c i }

pub push-requires-clause-fits : goal.push-requires-clause-fits
push-requires-clause-fits c =
    let ps = c.args.other.now.pairs in
    let p : Pair = record { left = c.left.result; rec = c.rec.result; key = c.key.result.now } in
    let e = same_pair p (pair_at ps c.loop-i.i) c.left.ensures c.rec.ensures c.key.ensures.is in
    let f = fits_next c.args.self.now ps c.args.from c.loop-i.i c.args.to (omega arith) (omega arith) c.requires.inside c.requires.fits in
    subst (λ (y : Pair). Fits (c.loop-i.self ++ y ∷ [])) (sym e) (subst (λ (xs : List Pair). Fits (xs ++ pair_at ps c.loop-i.i ∷ [])) (sym c.loop-i.invariant) f)

pub loop-i-preserved : goal.loop-i-preserved
loop-i-preserved c =
    let ps = c.args.other.now.pairs in
    let p : Pair = record { left = c.left.result; rec = c.rec.result; key = c.key.result.now } in
    let e = same_pair p (pair_at ps c.loop-i.i) c.left.ensures c.rec.ensures c.key.ensures.is in
    let part = take (c.loop-i.i - c.args.from) (drop c.args.from ps) in
    c.push.ensures
    ∙ (ap (λ xs. xs ++ p ∷ []) c.loop-i.invariant
    ∙ (append_assoc c.args.self.now part (p ∷ [])
    ∙ ap (λ xs. c.args.self.now ++ xs) (ap (λ y. part ++ y ∷ []) e ∙ sym (more_taken ps c.args.from c.loop-i.i (omega arith) (omega arith)))))

-- What the calls of an index leave.
use Rattle.std.proofs.Common.{◌≡◌, ℕ, Bool, true, false, List, Result, Ok, Err, refl, sym, subst}
use Rattle.std.specs.Prelude.{IfOk, OnOk}
use Rattle.mm_bson.specs.Tree.{Elements}
use Rattle.mm_views.specs.State.{Drafting}
use Rattle.mm_btree.specs.Nodes.{Item}
use Rattle.mm_btree.specs.Lists.{ins}
use Rattle.mm_btree.specs.Order.{item_lt, IsLacking}
use Rattle.mm_btree.specs.Removal.{without}
use Rattle.mm_btree.specs.declared.fault.TreeFault.{TreeFault}
use Rattle.mm_trees.specs.Indexes.{HasIndex}
use Rattle.mm_rows_trees.specs.Ready.{HasSome}

-- where nothing changed
pub some_kept : (old new : Drafting) (node owner position : ℕ) (spec : Elements) → HasSome old.image node owner position spec → new ≡ old → HasSome new.image node owner position spec
some_kept old new node owner position spec h e = subst (λ (d : Drafting). HasSome d.image node owner position spec) (sym e) h

-- a pair is taken out, or it wasn't there
pub some_taken : (old new : Drafting) (node owner position : ℕ) (spec : Elements) (x : Item) (r : Result Bool TreeFault) → HasSome old.image node owner position spec
    → IfOk r (λ there. there ≡ true → (pairs : List Item) → HasIndex old.image node owner position spec pairs → HasIndex new.image node owner position spec (without spec x pairs))
    → IfOk r (λ there. there ≡ false → new ≡ old) → OnOk r (HasSome new.image node owner position spec)
some_taken old new node owner position spec x (Ok true) h out kept = (without spec x h.0, out refl h.0 h.1)
some_taken old new node owner position spec x (Ok false) h out kept = some_kept old new node owner position spec h (kept refl)
some_taken old new node owner position spec x (Err e) h out kept = tt

-- a pair that isn't there may be put in
pub may_put : (old mid : Drafting) (node owner position : ℕ) (spec : Elements) (x : Item) (h : HasSome old.image node owner position spec) → mid ≡ old → IsLacking spec x h.0
    → (pairs : List Item) × (HasIndex mid.image node owner position spec pairs × IsLacking spec x pairs)
may_put old mid node owner position spec x h e l = (h.0, (subst (λ (d : Drafting). HasIndex d.image node owner position spec h.0) (sym e) h.1, l))

-- and then it is there
pub some_put : (old mid new : Drafting) (node owner position : ℕ) (spec : Elements) (x : Item) (h : HasSome old.image node owner position spec) → mid ≡ old → IsLacking spec x h.0
    → ((pairs : List Item) → HasIndex mid.image node owner position spec pairs → IsLacking spec x pairs → HasIndex new.image node owner position spec (ins (item_lt spec) x pairs)) → HasSome new.image node owner position spec
some_put old mid new node owner position spec x h e l f =
    (ins (item_lt spec) x h.0, f h.0 (subst (λ (d : Drafting). HasIndex d.image node owner position spec h.0) (sym e) h.1) l)

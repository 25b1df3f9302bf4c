use Rattle.std.proofs.Common.{◌≡◌, ◌∙◌, ℕ, ◌*◌, ◌%◌, length, refl, ap, arith}
use Rattle.std.specs.Prelude.{sum_by}
use Rattle.std.proofs.Math.Nat.{mul-mod_left}
use Rattle.std.proofs.lemmas.Result.{on_ok_weaker}
use Rattle.mm_ranges.specs.Places.{weight_of}
use Rattle.mm_ranges.specs.declared.limits.TheConstants.{NS_FILE}
use Rattle.mm_views.specs.State.{Drafting}
use Rattle.mm_nstable.proofs.Loops.{by_result}
use Rattle.mm_extents.proofs.MadeFiles.{length-with_one}
use Rattle.mm_namespaces.proofs.SetUps.{names_alone, names_zeros}
use Rattle.mm_namespaces.proofs.setup.make_names.Goals as goal

pub add_file-requires-clause-pages : goal.add_file-requires-clause-pages
add_file-requires-clause-pages c = let e : c.args.ns_mib * 1048576 ≡ c.args.ns_mib * 256 * 4096 = omega arith in ap (λ (n : ℕ). n % 4096) e ∙ mul-mod_left (c.args.ns_mib * 256) 4096

pub add_file-requires-clause-absent : goal.add_file-requires-clause-absent
add_file-requires-clause-absent c = c.requires.none NS_FILE

pub returns-clause-alone : goal.returns-clause-alone
returns-clause-alone c = on_ok_weaker c.add_file.result (λ e. names_alone c.args.draft.now.image c.add_file.«new».self.image c.args.ns_mib (c.args.ns_mib * 1048576) (ap (λ (d : Drafting). d.image) e) refl c.requires.least c.requires.most c.requires.none) c.add_file.ensures.ok

pub returns-clause-zeros : goal.returns-clause-zeros
returns-clause-zeros c = on_ok_weaker c.add_file.result (λ e. names_zeros c.args.draft.now.image c.add_file.«new».self.image (c.args.ns_mib * 1048576) (ap (λ (d : Drafting). d.image) e)) c.add_file.ensures.ok

pub returns-clause-weight : goal.returns-clause-weight
returns-clause-weight c = by_result c.add_file.result (λ e.
    let made = ap (λ (d : Drafting). length d.made) e ∙ length-with_one (record { file = NS_FILE; len = c.args.ns_mib * 1048576 }) c.args.draft.now.made in
    let same = ap (λ (d : Drafting). sum_by weight_of d.declared) e in
    omega (arith, made, same)) (λ e.
    let made = ap (λ (d : Drafting). length d.made) e in
    let same = ap (λ (d : Drafting). sum_by weight_of d.declared) e in
    omega (arith, made, same)) c.add_file.ensures.ok c.add_file.ensures.err

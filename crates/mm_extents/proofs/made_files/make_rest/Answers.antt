use Rattle.std.proofs.Common.{◌≡◌, ◌∙◌, ◌+◌, inl, inr, refl, ap, arith}
use Rattle.std.proofs.lemmas.Bool.{cases_lt}
use Rattle.mm_extents.specs.Files.{file_len}
use Rattle.mm_extents.proofs.MadeFiles.{file_len_least, past_last, no_rest}
use Rattle.mm_extents.proofs.RoomFalls.{none_passed, one_passed, passed_lowers}
use Rattle.mm_extents.proofs.made_files.make_rest.Goals as goal

pub returns-then-file_len-len-clause-stands : goal.returns-then-file_len-len-clause-stands
returns-then-file_len-len-clause-stands c = λ db heap chain ends f. c.in_ok-make_file.ensures.stands db heap chain ends (c.loop-file.invariant.stands db heap chain ends f)

pub loop-file-init : goal.loop-file-init
loop-file-init c = record {
  last = c.requires.last;
  from = omega arith;
  stands = λ db heap chain ends f. f;
  ns = refl;
  shorter = λ k le absent. absurd (let p = past_last c.args.draft.now.image c.args.last k c.requires.last absent in omega (arith, p, le));
  passed = (c.requires.few.0, none_passed _ _ c.requires.few.0 c.args.len c.requires.few.1.0 c.requires.few.1.1);
  weight = omega arith;
}

pub returns-then-file_len-len-clause-room : goal.returns-then-file_len-len-clause-room
returns-then-file_len-len-clause-room c =
    let more = c.loop-file-test.true in
    let p = c.loop-file.invariant.passed in
    passed_lowers _ _ _ c.loop-file.file p.0 c.args.len p.1 (omega (arith, more)) (c.in_ok-make_file.ensures.room p.0 p.1.unused)

pub loop-file-preserved : goal.loop-file-preserved
loop-file-preserved c =
    let from = c.loop-file.invariant.from in
    let w = c.loop-file.invariant.weight in
    let v = c.make_file.ensures.weight in
    let few = c.if-file_len-len.false in
    let is = c.file_len.ensures.is in
    let least = c.file_len.ensures.least in
    let p = c.loop-file.invariant.passed in
    record {
      last = c.in_ok-make_file.ensures.last;
      from = omega (arith, from);
      stands = λ db heap chain ends f. c.in_ok-make_file.ensures.stands db heap chain ends (c.loop-file.invariant.stands db heap chain ends f);
      ns = c.in_ok-make_file.ensures.ns ∙ c.loop-file.invariant.ns;
      shorter = λ k le absent. elim (cases_lt c.loop-file.file k) [
        | inl more ↦ let same : k ≡ c.loop-file.file + 1 = omega (arith, more, le) in let f = ap file_len same in omega (arith, few, is, least, f)
        | inr less ↦ c.loop-file.invariant.shorter k (omega (arith, less)) absent
      ];
      passed = (8192, one_passed _ _ _ c.loop-file.file p.0 c.args.len p.1 (c.in_ok-make_file.ensures.room p.0 p.1.unused) c.in_ok-make_file.ensures.unused (file_len_least c.loop-file.file) (omega (arith, few, is, least)));
      weight = omega (arith, w, v, from);
    }

pub returns-clause-left : goal.returns-clause-left
returns-clause-left c = λ e.
    let past = c.loop-file-test.false in
    let p = c.loop-file.invariant.passed in
    record {
      ns = c.loop-file.invariant.ns;
      stands = λ db heap chain ends f. c.loop-file.invariant.stands db heap chain ends f;
      no_rest = no_rest _ c.loop-file.file p.0 c.args.len c.loop-file.invariant.last p.1.unused p.1.few (λ j lt absent. absurd (let more = past_last _ c.loop-file.file j c.loop-file.invariant.last absent in omega (arith, more, lt, past)));
    }

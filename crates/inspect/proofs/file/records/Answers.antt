use Rattle.std.proofs.Common.{◌≡◌, ◌+◌, ◌*◌, length, get_or, drop, vec_items, vec_len, sym, ap, ◌∙◌, arith, length-drop}
use Rattle.std.proofs.lemmas.Bool.{eqb-true, eqb-false}
use Rattle.inspect.specs.File.{told}
use Rattle.inspect.proofs.Steps.{told_more}
use Rattle.inspect.proofs.file.records.Goals as goal

pub loop-rest-smaller : goal.loop-rest-smaller
loop-rest-smaller c =
    let some = eqb-false (length c.loop-rest.rest.now) 0 (sym c.is_empty.ensures ∙ c.loop-rest-test.true) in
    omega (arith, some, ap length c.first-found.ensures.next, length-drop 64 c.loop-rest.rest.now)

pub loop-rest-preserved : goal.loop-rest-preserved
loop-rest-preserved c =
    let bytes = c.args.bytes.now in
    let rest = c.loop-rest.rest.now in
    let all = c.loop-rest.all in
    let pushed = c.in_ok-push.ensures in
    let longer : vec_len c.push.new.self ≡ vec_len all + 1 = pushed.len in
    let long : vec_len all ≡ length (vec_items all) = omega (arith, all.ok.0) in
    let some = eqb-false (length rest) 0 (sym c.is_empty.ensures ∙ c.loop-rest-test.true) in
    let inv = c.loop-rest.invariant in
    let more = told_more bytes rest c.first-found.result.1.now (vec_items all) (vec_len all) c.first-found.result.0 long inv.0
    c.first-found.ensures.found c.first-found.ensures.next inv.2 in (
      more.0 ∙ ap (λ n. drop (64 * n) bytes) (sym longer),
      omega (arith, longer, some, ap length inv.0, length-drop (64 * vec_len all) bytes),
      λ k d b. ap (λ xs. told (get_or xs k d)) pushed.items ∙ more.1 k d (omega (arith, longer)),
    )

pub returns : goal.returns
returns c =
    let bytes = c.args.bytes.now in
    let all = c.loop-rest.all in
    let long : vec_len all ≡ length (vec_items all) = omega (arith, all.ok.0) in
    let none = eqb-true (length c.loop-rest.rest.now) 0 (sym c.is_empty.ensures ∙ c.loop-rest-test.false) in
    let inv = c.loop-rest.invariant in
    record {
      count = omega (arith, none, long, ap length inv.0, length-drop (64 * vec_len all) bytes, inv.1);
      each_one = λ k d b. inv.2 k d (omega (arith, long));
    }

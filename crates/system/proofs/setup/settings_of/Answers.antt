-- `settings_of`: each test is one of the definition's, or follows from one (`SetupLaws`). The marks are tested
-- first, so at every later test they are among the 13.
-- Assumes nothing.
use Rattle.basics.proofs.Prelude.{sym, ◌<◌, arith, lt-ltb, le-ltb}
use Rattle.system.proofs.SetupLaws.{over_marks, over_f, over_n, over_clients, out_of_range}
use Rattle.system.proofs.SetupLaws.{too_many, is_set}
use Rattle.system.proofs.setup.settings_of.Goals as goal

pub returns-then-asked-ge-OVER_MARKS : goal.returns-then-asked-ge-OVER_MARKS
returns-then-asked-ge-OVER_MARKS c =
    let a = c.args.asked in sym (over_marks a.f a.n a.clients a.faulty c.if-asked-ge-OVER_MARKS.true)

pub returns-in_default : goal.returns-in_default
returns-in_default c =
    let a = c.args.asked in
    let wide : 255 < a.f = omega (arith, c.in_default.ensures) in
    sym (over_f a.f a.n a.clients a.faulty c.if-asked-ge-OVER_MARKS.false wide)

pub returns-in_default-try_from : goal.returns-in_default-try_from
returns-in_default-try_from c =
    let a = c.args.asked in
    let wide : 255 < a.n = omega (arith, c.in_default-try_from.ensures) in
    sym (over_n a.f a.n a.clients a.faulty c.if-asked-ge-OVER_MARKS.false wide)

pub returns-in_default-try_from-2 : goal.returns-in_default-try_from-2
returns-in_default-try_from-2 c =
    let a = c.args.asked in
    let wide : 255 < a.clients = omega (arith, c.in_default-try_from-2.ensures) in
    sym (over_clients a.f a.n a.clients a.faulty c.if-asked-ge-OVER_MARKS.false wide)

pub returns-then-not-fine : goal.returns-then-not-fine
returns-then-not-fine c =
    let a = c.args.asked in
    sym (out_of_range a.f a.n a.clients a.faulty c.if-asked-ge-OVER_MARKS.false
    (cc (c.in-Ok.ensures.1, c.in-Ok-try_from.ensures.1, c.in-Ok-try_from-2.ensures.1)))

pub returns-then-many : goal.returns-then-many
returns-then-many c =
    let a = c.args.asked in
    let few = c.in-Ok.ensures.1 in
    sym (too_many a.f a.n a.clients a.faulty c.if-asked-ge-OVER_MARKS.false
    (cc (few, c.in-Ok-try_from.ensures.1, c.in-Ok-try_from-2.ensures.1))
    (lt-ltb _ _ (rw (few, c.count_faulty.ensures) at c.if-many.true)))

pub returns-else-many : goal.returns-else-many
returns-else-many c =
    let a = c.args.asked in
    let few = c.in-Ok.ensures.1 in
    let set = is_set a.f a.n a.clients a.faulty c.if-asked-ge-OVER_MARKS.false
    (cc (few, c.in-Ok-try_from.ensures.1, c.in-Ok-try_from-2.ensures.1))
    (le-ltb _ _ (rw (few, c.count_faulty.ensures) at c.if-many.false)) in
    cc (few, c.in-Ok-try_from.ensures.1, c.in-Ok-try_from-2.ensures.1)

-- `channel::channel_sound` meets its contract: each return is one of the channel's tests, in their order.
-- Assumes nothing.
use Rattle.basics.proofs.Prelude.{sym, ◌∙◌, get_or, ◌≤◌, arith, le-leb}
use mathlib.Core.Bool.{and-true}
use Rattle.register.specs.Settings.{capacity}
use Rattle.channel.specs.Sound.{channel_tests}
use Rattle.channel.proofs.Passing.{passed, failed, empty_sound}
use Rattle.channel.proofs.channel_sound.Goals as goal

pub returns-then-held-eq0 : goal.returns-then-held-eq0
returns-then-held-eq0 c =
    c.zeros.ensures ∙ sym (empty_sound c.args.slots.now c.args.i c.if-held-eq0.true)

pub returns-then-not-slots_go : goal.returns-then-not-slots_go
unfolding channel_tests
returns-then-not-slots_go c =
    let held = get_or c.args.slots.now c.args.i 0 in
    let few : held ≤ capacity = omega arith in
    rw (le-leb held capacity few, failed c.slots_go.ensures c.if-not-slots_go.true)

pub returns : goal.returns
unfolding channel_tests
returns c =
    let held = get_or c.args.slots.now c.args.i 0 in
    let few : held ≤ capacity = omega arith in
    rw (le-leb held capacity few, passed c.slots_go.ensures c.if-not-slots_go.false)
    (c.zeros-2.ensures ∙ sym (and-true _))

-- `send_up`: what is sent goes by its kind. Assumes nothing.
use Rattle.basics.proofs.Prelude.{sym, ap, ◌∙◌, List, ℕ}
use Rattle.message.specs.declared.Message.TheVariants.{WriteInfo}
use Rattle.client.specs.Outcome.{messages_of}
use Rattle.client.specs.declared.Sends.{Sends}
use Rattle.state.specs.declared.Settings.{Settings}
use Rattle.steps.specs.InMemory.{to_all, send_up}
use Rattle.steps.proofs.transport.send_up.Goals as goal

-- the slots after what is sent
abbrev sent : Settings → List ℕ → ℕ → Sends → List ℕ
sent settings slots i x = send_up settings slots i (messages_of x)

pub returns-in-Nothing : goal.returns-in-Nothing
unfolding send_up
returns-in-Nothing c = ap (sent c.args.known.settings c.args.slots.now c.args.i) (sym c.in-Nothing.is)

pub returns-in-GetInfo : goal.returns-in-GetInfo
unfolding send_up
returns-in-GetInfo c =
    c.broadcast.ensures ∙ ap (sent c.args.known.settings c.args.slots.now c.args.i) (sym c.in-GetInfo.is)

pub returns-in-Done : goal.returns-in-Done
unfolding send_up
returns-in-Done c =
    c.broadcast-in-Done.ensures ∙ ap (sent c.args.known.settings c.args.slots.now c.args.i) (sym c.in-Done.is)

pub returns-in-DoneAndWrite : goal.returns-in-DoneAndWrite
unfolding send_up
returns-in-DoneAndWrite c =
    let a = c.args in
    c.broadcast-in-DoneAndWrite-2.ensures
    ∙ ap (λ (y : List ℕ). to_all a.known.settings y a.i (WriteInfo c.in-DoneAndWrite.pair))
    c.broadcast-in-DoneAndWrite.ensures
    ∙ ap (sent a.known.settings a.slots.now a.i) (sym c.in-DoneAndWrite.is)

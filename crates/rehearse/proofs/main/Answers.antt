-- `main`: between two turns the program is where the definition of its turns has it (`Between`).
--
-- In order: the start; one turn more.
-- Assumes nothing.
use Rattle.basics.proofs.Prelude.{◌≡◌, sym, ◌∙◌, length, take, drop, arith}
use Rattle.script.proofs.Writing.{keeps}
use Rattle.rehearse.specs.Blocks.{input_bytes}
use Rattle.rehearse.proofs.Between.{none_read, one_turn}
use Rattle.rehearse.proofs.main.Goals as goal

pub loop-init : goal.loop-init
loop-init c =
    none_read c.numeral_of.ensures
    (record {
      servers = c.new-state.ensures.servers;
      clients = c.new-state.ensures.clients;
      slots = c.new-state.ensures.slots;
    })
    (sym c.new_input-input.ensures) (sym c.new_output-out.ensures)

-- the bytes that were read are the turn's part
pub loop-preserved : goal.loop-preserved
loop-preserved c =
    let read = c.read_behind-more in
    let long : length read.new.input ≡ input_bytes = read.auto.input ∙ c.loop.invariant.long in
    one_turn c.loop.invariant read.new.input (take read.result (drop c.loop.have read.new.input))
    read.ensures.0 c.close-total.ensures (omega arith)
    c.obey_lines-turn.ensures c.keep-have.ensures long
    (keeps c.obey_lines-turn.ensures.text)

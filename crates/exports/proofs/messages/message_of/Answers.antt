-- `message_of`: refused first, field by field; then the words have the number that the fields join to.
-- Assumes nothing.
use Rattle.basics.proofs.Prelude.{◌≡◌, sym, ap, ◌∙◌, ℕ, ◌^◌, arith, ltb-true, lt-ltb, le-ltb}
use native.Mathlib.Nat.{mod-eq_of_lt}
use Rattle.message.specs.declared.WriteCounter.{WriteCounter}
use Rattle.message.specs.Layout.{kind_bits, tag_bits, counter_bits, client_bits, entry_bits}
use Rattle.exports.specs.Fields.{message_by}
use Rattle.exports.proofs.FieldLaws.{words_message}
use Rattle.exports.proofs.messages.message_of.Goals as goal

pub returns-then-kind-ge-OVER_KIND : goal.returns-then-kind-ge-OVER_KIND
unfolding message_by
returns-then-kind-ge-OVER_KIND c = rw (le-ltb _ (2 ^ kind_bits) c.if-kind-ge-OVER_KIND.true)

pub returns-then-not-fits_read : goal.returns-then-not-fits_read
unfolding message_by
returns-then-not-fits_read c =
    rw (lt-ltb _ (2 ^ kind_bits) c.if-kind-ge-OVER_KIND.false, sym c.fits_read.ensures ∙ c.if-not-fits_read.true)

pub returns-then-not-fits_counter : goal.returns-then-not-fits_counter
unfolding message_by
returns-then-not-fits_counter c =
    rw (
      lt-ltb _ (2 ^ kind_bits) c.if-kind-ge-OVER_KIND.false,
      sym c.fits_read.ensures ∙ c.if-not-fits_read.false,
      sym c.fits_counter.ensures ∙ c.if-not-fits_counter.true,
    )

pub returns-then-client-ge-OVER_CLIENT : goal.returns-then-client-ge-OVER_CLIENT
unfolding message_by
returns-then-client-ge-OVER_CLIENT c =
    rw (
      lt-ltb _ (2 ^ kind_bits) c.if-kind-ge-OVER_KIND.false,
      sym c.fits_read.ensures ∙ c.if-not-fits_read.false,
      sym c.fits_counter.ensures ∙ c.if-not-fits_counter.false,
      le-ltb _ (2 ^ client_bits) c.if-client-ge-OVER_CLIENT.true,
    )

pub returns-then-entry-ge-OVER_ENTRY : goal.returns-then-entry-ge-OVER_ENTRY
unfolding message_by
returns-then-entry-ge-OVER_ENTRY c =
    rw (
      lt-ltb _ (2 ^ kind_bits) c.if-kind-ge-OVER_KIND.false,
      sym c.fits_read.ensures ∙ c.if-not-fits_read.false,
      sym c.fits_counter.ensures ∙ c.if-not-fits_counter.false,
      lt-ltb _ (2 ^ client_bits) c.if-client-ge-OVER_CLIENT.false,
      le-ltb _ (2 ^ entry_bits) c.if-entry-ge-OVER_ENTRY.true,
    )

pub returns : goal.returns
returns c =
    let a = c.args in
    let tag_small = ltb-true a.tag (2 ^ tag_bits) (sym c.fits_read.ensures ∙ c.if-not-fits_read.false) in
    let small = ltb-true a.counter (2 ^ counter_bits) (sym c.fits_counter.ensures ∙ c.if-not-fits_counter.false) in
    -- the counter that is made is the one given
    let counted : ◌≡◌ {A = WriteCounter} c.counter_from.result (record { 0 = a.counter }) =
    c.counter_from.ensures ∙ ap (λ (k : ℕ). record { 0 = k }) (mod-eq_of_lt (omega (arith, small))) in
    c.of_words.ensures
    ∙ words_message a.kind a.tag a.counter a.client a.entry c.if-kind-ge-OVER_KIND.false tag_small small
    c.if-client-ge-OVER_CLIENT.false c.if-entry-ge-OVER_ENTRY.false c.pair_of-pair.result
    (cc (c.pair_of-pair.ensures, counted))

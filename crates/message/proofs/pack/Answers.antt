-- `pack`: refused first, in the order of the table, and stored after.
use Rattle.basics.proofs.Prelude.{◌≡◌, sym, ap, ◌∙◌, ℕ, arith}
use lib.Seq.{sets}
use Rattle.basics.specs.Bytes.{big_endian}
use Rattle.message.specs.Layout.{message_bytes, number_of, words_number}
use Rattle.message.proofs.Numbers.{words_number_lem}
use Rattle.message.proofs.Packing.{malformed, short, packed}
use Rattle.message.proofs.pack.Goals as goal

pub returns-then-not-is_well_formed : goal.returns-then-not-is_well_formed
returns-then-not-is_well_formed c =
    let m = malformed c.args.message c.args.out.now (sym c.is_well_formed.ensures ∙ c.if-not-is_well_formed.true) in
    record { answer = m.0; bytes = m.1 }

pub returns-then-out-lt-MESSAGE_BYTES : goal.returns-then-out-lt-MESSAGE_BYTES
returns-then-out-lt-MESSAGE_BYTES c =
    let fine = sym c.is_well_formed.ensures ∙ c.if-not-is_well_formed.false in
    let s = short c.args.message c.args.out.now fine (omega arith) in
    record { answer = s.0; bytes = s.1 }

pub returns : goal.returns
returns c =
    let fine = sym c.is_well_formed.ensures ∙ c.if-not-is_well_formed.false in
    let p = packed c.args.message c.args.out.now fine (omega arith) in
    let number : words_number c.words_of.result ≡ number_of c.args.message =
    ap words_number c.words_of.ensures ∙ words_number_lem c.args.message in
    let bytes = ap (λ (n : ℕ). sets c.args.out.now 0 (big_endian message_bytes n)) number in
    record { answer = p.0; bytes = c.store.ensures ∙ bytes ∙ p.1 }

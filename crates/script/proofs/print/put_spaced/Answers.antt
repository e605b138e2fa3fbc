-- `put_spaced`: a blank, and a number behind it.
use Rattle.basics.proofs.Prelude.{[], ◌∷◌, arith}
use Prim.Native.Char.{code}
use Rattle.script.proofs.Lengths.{decimal_fits}
use Rattle.script.proofs.Writing.{keeps, then}
use Rattle.script.proofs.print.put_spaced.Goals as goal

pub put_decimal-requires : goal.put_decimal-requires
put_decimal-requires c =
    decimal_fits _ _ _ (omega (arith, keeps c.put_text-next.ensures, c.put_text-next.ensures.ends))

pub returns : goal.returns
returns c = then {text = code " " ∷ []} c.put_text-next.ensures c.put_decimal.ensures

-- `copied`: each number is that of the replies at its place. Assumes nothing.
use Rattle.basics.proofs.Prelude.{◌∙◌, rules}
use Rattle.client.proofs.Made.{made_is}
use Rattle.client.proofs.copied.Goals as goal

pub returns : goal.returns
returns c =
    made_is _ _ c.replies_in-replies.result.now _ (λ i y q called. search rules) _ c.from_fn.ensures.items (search rules)
    ∙ c.replies_in-replies.ensures

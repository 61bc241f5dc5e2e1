-- What a customer does.
use Rattle.std.specs.Prelude.{[], ◌∷◌, codes}
use Rattle.actor_trait.specs.Meaning.{Meaning}
use Rattle.actor_trait.specs.Seen.{Seen}
use Rattle.actor_trait.specs.declared.context.Context.{Context}
use Rattle.actor_trait.specs.declared.outcome.Outcome.{Outcome}
use Rattle.soda_model.specs.Buyers.{buyer_acts, with_state}
use Rattle.soda_model.specs.CustomerFields.{CustomerFields}
use Rattle.soda_model.specs.declared.buyer.Buyer.{Buyer}

abbrev pub customer_buyer : CustomerFields → Buyer
customer_buyer s = record { machine = s.machine; offer = s.offer; money = s.money; cans = s.cans }

abbrev pub customer_after : CustomerFields → Buyer → CustomerFields
customer_after s b = record s { money = b.money; cans = b.cans }

-- its wait is its period
abbrev pub customer_acts : CustomerFields → Context → Seen → Outcome CustomerFields
customer_acts s c e =
    let o = buyer_acts (customer_buyer s) s.period c e in
    with_state (customer_after s o.state) o

abbrev pub customer_meaning : Meaning CustomerFields
customer_meaning = record { acts = customer_acts; kind = λ _. codes "customer"; probes = λ _. codes "cans" ∷ codes "money" ∷ [] }

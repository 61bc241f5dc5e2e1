-- What a random customer does.
use Rattle.std.specs.Prelude.{ℕ, ◌+◌, ◌-◌, [], ◌∷◌, codes}
use Rattle.actor_trait.specs.ContextDraws.{draw_in}
use Rattle.actor_trait.specs.Meaning.{Meaning}
use Rattle.actor_trait.specs.Seen.{Seen}
use Rattle.actor_trait.specs.declared.context.Context.{Context}
use Rattle.actor_trait.specs.declared.outcome.Outcome.{Outcome}
use Rattle.soda_model.specs.Buyers.{buyer_acts, with_state}
use Rattle.soda_model.specs.RandomCustomerFields.{RandomCustomerFields}
use Rattle.soda_model.specs.declared.buyer.Buyer.{Buyer}

abbrev pub random_buyer : RandomCustomerFields → Buyer
random_buyer s = record { machine = s.machine; offer = s.offer; money = s.money; cans = s.cans }

abbrev pub random_customer_after : RandomCustomerFields → Buyer → RandomCustomerFields
random_customer_after s b = record s { money = b.money; cans = b.cans }

-- draw 0 of the event's moment, from low to high
abbrev pub random_wait : RandomCustomerFields → Context → ℕ
random_wait s c = s.low + draw_in c 0 (s.high - s.low + 1)

-- a customer with that wait
abbrev pub random_customer_acts : RandomCustomerFields → Context → Seen → Outcome RandomCustomerFields
random_customer_acts s c e =
    let o = buyer_acts (random_buyer s) (random_wait s c) c e in
    with_state (random_customer_after s o.state) o

abbrev pub random_customer_meaning : Meaning RandomCustomerFields
random_customer_meaning = record {
  acts = random_customer_acts;
  kind = λ _. codes "random_customer";
  probes = λ _. codes "cans" ∷ codes "money" ∷ [];
}

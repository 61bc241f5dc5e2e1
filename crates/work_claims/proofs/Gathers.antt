-- The letters that are sent, and the inboxes of some of them.
use Rattle.std.proofs.Common.{◌≡◌, ℕ, ◌+◌, ◌<◌, ◌≤◌, Bool, true, false, ◌||◌, not, cond, nat_lt, List, [], ◌∷◌, ◌++◌, length, get_or, take}
use Rattle.std.proofs.Common.{Option, Some, None, is_some, is_none, append-nil, append_assoc, eqb-true, refl, sym, ap, ◌∙◌, arith}
use Rattle.std.specs.List.{filter, flat_map}
use Rattle.std.specs.Option.{option_or}
use Rattle.std.proofs.lemmas.Bool.Decides.{nat_tests}
use Rattle.std.proofs.lemmas.Grind.{flat_map-append}
use Rattle.std.proofs.lemmas.List.{take_more}
use Rattle.std.proofs.lemmas.List.Elements.{filter-append}
use Rattle.sim_base.specs.declared.ids.ActorId.{ActorId}
use Rattle.sim_base.specs.declared.moment.Moment.{Moment}
use Rattle.actor_trait.specs.Faults.{asks_past, fault_shown, gives_too_many, is_too_many, samples_unknown, when}
use Rattle.actor_trait.specs.InboxOrder.{Precedence, in_order, inbox_order, is_to}
use Rattle.actor_trait.specs.Meaning.{Meaning}
use Rattle.actor_trait.specs.declared.letter.Letter.{Letter}
use Rattle.actor_trait.specs.declared.outcome.Outcome.{Outcome}
use Rattle.sim_model.specs.Moment.{sends_of}
use Rattle.sim_model.specs.declared.report.Report.{Report}
use Rattle.sim_model.proofs.Sameness.{id_same}
use Rattle.work_claims.specs.Letters.{is_calm, letters_sent}
use Rattle.work_claims.specs.Placed.{Placed}

-- ---- an outcome without a fault sends at most 1,024 letters

not_many : (f : Option ℕ) (past many : Bool) (rest : Option ℕ)
    → is_some (option_or f (option_or (when past 900) (option_or (when many 901) rest))) ≡ false → many ≡ false
not_many (Some c) past many rest e = cc
not_many None true many rest e = cc
not_many None false true rest e = cc
not_many None false false rest e = refl

first_no : (a b c d : Bool) → (a || b || c || d) ≡ false → a ≡ false
first_no true b c d e = cc
first_no false b c d e = refl

pub calm_few : {A : Type 0} (m : Meaning A) (o : Outcome A) (at : Moment) → is_some (fault_shown m o at) ≡ false → length o.sends ≤ 1024
calm_few m o at e =
    let many : gives_too_many o ≡ false = not_many o.fault (asks_past at.tick o.ticks) (gives_too_many o)
    (option_or (when false 902) (when (samples_unknown (length (m.probes o.state)) o.samples) 903)) e in
    let few : nat_lt 1024 (length o.sends) ≡ false =
    first_no (is_too_many o.sends) (is_too_many o.ticks) (is_too_many o.births) (is_too_many o.samples) many in
    grind (arith, nat_tests, few)

none_or_some : {X : Type 0} (o : Option X) → is_none o ≡ not (is_some o)
none_or_some None = refl
none_or_some (Some x) = refl

module _ {A : Type 0} (m : Meaning A) (p : Placed A) where
  calm_is : (r : Report A) (b : Bool) → is_some (fault_shown m r.outcome p.at) ≡ b → is_calm m p r.outcome ≡ not b
  calm_is r b e = none_or_some (fault_shown m r.outcome p.at) ∙ ap not e

  pub sent_calm : (r : Report A) → is_some (fault_shown m r.outcome p.at) ≡ false → letters_sent m p (r ∷ []) ≡ sends_of r
  sent_calm r e =
      ap (λ (b : Bool). flat_map sends_of (cond b (r ∷ []) [])) (calm_is r false e) ∙ append-nil (sends_of r)

  pub sent_fault : (r : Report A) → is_some (fault_shown m r.outcome p.at) ≡ true → letters_sent m p (r ∷ []) ≡ []
  sent_fault r e = ap (λ (b : Bool). flat_map sends_of (cond b (r ∷ []) [])) (calm_is r true e)

  pub sent_append : (rs qs : List (Report A)) → letters_sent m p (rs ++ qs) ≡ letters_sent m p rs ++ letters_sent m p qs
  sent_append rs qs =
      ap (flat_map sends_of) (filter-append (λ r. is_calm m p r.outcome) rs qs)
      ∙ flat_map-append sends_of (filter (λ r. is_calm m p r.outcome) rs) (filter (λ r. is_calm m p r.outcome) qs)

  -- the letters that pass a test, of one report more, after those in front
  pub sent_next : (q : Letter → Bool) (rs : List (Report A)) (i : ℕ) (r : Report A) (front before after : List Letter) → i < length rs
      → r ≡ get_or rs i r → before ≡ front ++ filter q (letters_sent m p (take i rs)) → after ≡ before ++ filter q (letters_sent m p (r ∷ []))
      → after ≡ front ++ filter q (letters_sent m p (take (i + 1) rs))
  sent_next q rs i r front before after lt is was more =
      more ∙ ap (λ l. l ++ filter q (letters_sent m p (r ∷ []))) was
      ∙ append_assoc front (filter q (letters_sent m p (take i rs))) (filter q (letters_sent m p (r ∷ [])))
      ∙ ap (λ l. front ++ l)
      (sym (filter-append q (letters_sent m p (take i rs)) (letters_sent m p (r ∷ [])))
      ∙ ap (filter q) (sym (sent_append (take i rs) (r ∷ [])))
      ∙ ap (λ x. filter q (letters_sent m p (take i rs ++ x ∷ []))) is
      ∙ ap (λ l. filter q (letters_sent m p l)) (sym (take_more rs i r lt)))

-- ---- the inboxes of the actors of some managers

empty_order : (precedence : Precedence) → in_order precedence [] ≡ []
unfolding in_order
empty_order precedence = refl

module _ (mine : ActorId → Bool) (to : ActorId) where
  to_mine : (letters : List Letter) → filter (is_to to) (filter (λ l. mine l.to) letters) ≡ cond (mine to) (filter (is_to to) letters) []
  to_mine [] = none (mine to) where
    none : (b : Bool) → ◌≡◌ {A = List Letter} [] (cond b [] [])
    none true = refl
    none false = refl
  to_mine (l ∷ ls) = told (is_to to l) refl (mine l.to) refl (mine to) refl (to_mine ls) where
    told : (t : Bool) → is_to to l ≡ t → (b : Bool) → mine l.to ≡ b → (c : Bool) → mine to ≡ c
        → filter (is_to to) (filter (λ l. mine l.to) ls) ≡ cond c (filter (is_to to) ls) []
        → filter (is_to to) (cond b (l ∷ filter (λ l. mine l.to) ls) (filter (λ l. mine l.to) ls)) ≡ cond c (cond t (l ∷ filter (is_to to) ls) (filter (is_to to) ls)) []
    told true e true f true g r = rw e (ap (λ x. l ∷ x) r)
    told true e false f false g r = r
    told true e true f false g r = let s = ap mine (id_same l.to to (eqb-true l.to.0 to.0 e)) in cc
    told true e false f true g r = let s = ap mine (id_same l.to to (eqb-true l.to.0 to.0 e)) in cc
    told false e true f c g r = rw e r
    told false e false f c g r = r

  pub inbox_mine : (letters : List Letter) (precedence : Precedence)
      → inbox_order (filter (λ l. mine l.to) letters) to precedence ≡ cond (mine to) (inbox_order letters to precedence) []
  inbox_mine letters precedence = ap (in_order precedence) (to_mine letters) ∙ told (mine to) where
    told : (b : Bool) → in_order precedence (cond b (filter (is_to to) letters) []) ≡ cond b (in_order precedence (filter (is_to to) letters)) []
    told true = refl
    told false = empty_order precedence

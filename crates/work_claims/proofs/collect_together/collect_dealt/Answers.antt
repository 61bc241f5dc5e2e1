use Rattle.std.proofs.Common.{◌≡◌, ◌-◌, ◌<◌, ℕ, List, [], ◌∷◌, ◌++◌, refl, ap, subst, sym, ◌∙◌, arith}
use Rattle.std.specs.List.{All}
use Rattle.quiet_core.specs.Account.{Account, collects}
use Rattle.quiescence.specs.Answers.{NoDuty}
use Rattle.quiescence.specs.Joint.{helper, joint, keeper}
use Rattle.quiescence.specs.Rule.{Holding}
use Rattle.work_claims.specs.Together.{Gathered, Helped, IsDone}
use Rattle.work_claims.proofs.Dealing.{all_seats, first_gathered, no_duty_helper, rest_helped, seats_many}
use Rattle.work_claims.proofs.Uniting.{gathered_is}
use Rattle.work_claims.proofs.collect_together.collect_dealt.Goals as goal

pub collect_seats-requires-clause-ready : goal.collect_seats-requires-clause-ready
collect_seats-requires-clause-ready g c κs within =
    let m = g.A.Actor.meaning in
    let p = g.W.Scene.placed c.args.world.now in
    let r = c.args.round.now in
    let rs = c.args.reports.now in
    let one : c.push.new.self.items ≡ c.args.hand ∷ [] = c.in_ok-push.ensures.items ∙ ap (λ (l : List Holding). l ++ c.args.hand ∷ []) c.in_ok-hands.ensures.items in
    let a = joint c.push.new.self.items in
    let is : a ≡ c.args.hand.account = ap joint one in
    let work : IsDone m p rs a = subst (λ x. IsDone m p rs x) (sym is) c.requires.ready.work in
    let none : (n : ℕ) → n < p.managers → collects a n ≡ 0 = λ n ln. ap (λ (x : Account). collects x n) is ∙ c.requires.ready.none_collected n ln in
    let d = c.in_ok-hands-2.ensures.dealt in
    let are = c.in_ok-seats.ensures ∙ d.hands in
    let free : NoDuty a = subst (λ x. NoDuty x) (sym is) c.requires.ready.no_duty in
    all_seats c.in_ok-seats.seats.items (keeper r a d.known d.collecting) (helper r d.known) (r.shape.hands - 1) are
    (λ h. (h.round ≡ r) × NoDuty h.account) (refl, free) (refl, no_duty_helper r d.known)

pub unite-requires-clause-first : goal.unite-requires-clause-first
unite-requires-clause-first g c =
    let m = g.A.Actor.meaning in
    let p = g.W.Scene.placed c.args.world.now in
    let r = c.args.round.now in
    let rs = c.args.reports.now in
    let one : c.push.new.self.items ≡ c.args.hand ∷ [] = c.in_ok-push.ensures.items ∙ ap (λ (l : List Holding). l ++ c.args.hand ∷ []) c.in_ok-hands.ensures.items in
    let a = joint c.push.new.self.items in
    let is : a ≡ c.args.hand.account = ap joint one in
    let work : IsDone m p rs a = subst (λ x. IsDone m p rs x) (sym is) c.requires.ready.work in
    let none : (n : ℕ) → n < p.managers → collects a n ≡ 0 = λ n ln. ap (λ (x : Account). collects x n) is ∙ c.requires.ready.none_collected n ln in
    let d = c.in_ok-hands-2.ensures.dealt in
    let are = c.in_ok-seats.ensures ∙ d.hands in
    let seats_ok = c.in_ok-seats.seats.ok in
    let all_ok = c.in_ok-all.all.ok in
    let count = c.in_ok-all.ensures.count in
    subst (λ x. Gathered m p r 1 rs x) (sym c.remove-first.ensures.value)
    (first_gathered m p r c.requires.fits rs a work d.known d.knows_all d.collecting none c.in_ok-seats.seats.items (r.shape.hands - 1) are c.in_ok-all.all.items (omega arith)
    (λ i s x lt. c.in_ok-all.ensures.each i s x (omega arith)) c.remove-first.result)

pub unite-requires-clause-others : goal.unite-requires-clause-others
unite-requires-clause-others g c =
    let m = g.A.Actor.meaning in
    let p = g.W.Scene.placed c.args.world.now in
    let r = c.args.round.now in
    let rs = c.args.reports.now in
    let one : c.push.new.self.items ≡ c.args.hand ∷ [] = c.in_ok-push.ensures.items ∙ ap (λ (l : List Holding). l ++ c.args.hand ∷ []) c.in_ok-hands.ensures.items in
    let a = joint c.push.new.self.items in
    let is : a ≡ c.args.hand.account = ap joint one in
    let work : IsDone m p rs a = subst (λ x. IsDone m p rs x) (sym is) c.requires.ready.work in
    let none : (n : ℕ) → n < p.managers → collects a n ≡ 0 = λ n ln. ap (λ (x : Account). collects x n) is ∙ c.requires.ready.none_collected n ln in
    let d = c.in_ok-hands-2.ensures.dealt in
    let are = c.in_ok-seats.ensures ∙ d.hands in
    let seats_ok = c.in_ok-seats.seats.ok in
    let all_ok = c.in_ok-all.all.ok in
    let count = c.in_ok-all.ensures.count in
    subst (λ l. All (Helped m p r rs) l) (sym c.remove-first.ensures.items)
    (rest_helped m p r c.requires.fits rs a work d.known d.knows_all d.collecting none c.in_ok-seats.seats.items (r.shape.hands - 1) are c.in_ok-all.all.items (omega arith)
    (λ i s x lt. c.in_ok-all.ensures.each i s x (omega arith)))

pub returns : goal.returns
returns g c =
    let m = g.A.Actor.meaning in
    let p = g.W.Scene.placed c.args.world.now in
    let r = c.args.round.now in
    let rs = c.args.reports.now in
    let one : c.push.new.self.items ≡ c.args.hand ∷ [] = c.in_ok-push.ensures.items ∙ ap (λ (l : List Holding). l ++ c.args.hand ∷ []) c.in_ok-hands.ensures.items in
    let a = joint c.push.new.self.items in
    let is : a ≡ c.args.hand.account = ap joint one in
    let work : IsDone m p rs a = subst (λ x. IsDone m p rs x) (sym is) c.requires.ready.work in
    let none : (n : ℕ) → n < p.managers → collects a n ≡ 0 = λ n ln. ap (λ (x : Account). collects x n) is ∙ c.requires.ready.none_collected n ln in
    let d = c.in_ok-hands-2.ensures.dealt in
    let are = c.in_ok-seats.ensures ∙ d.hands in
    let seats_ok = c.in_ok-seats.seats.ok in
    let all_ok = c.in_ok-all.all.ok in
    let count = c.in_ok-all.ensures.count in
    let many = seats_many c.in_ok-seats.seats.items (keeper r a d.known d.collecting) (helper r d.known) (r.shape.hands - 1) are in
    let removed = c.remove-first.ensures.len in
    let several = c.requires.several in
    gathered_is m p r _ _ rs _ _ (omega arith) refl c.in_ok-collected.ensures

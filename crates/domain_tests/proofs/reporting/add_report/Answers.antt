use Rattle.std.proofs.Common.{◌≡◌, ◌<◌, nat_eq, true, false, length, get_or, sym}
use Rattle.std.proofs.lemmas.List.{append-nil}
use Rattle.sim_model.specs.Moment.{is_among}
use Rattle.local_manager.specs.Directories.{home_of}
use Rattle.local_manager.specs.Views.{route_in, scheduled_at}
use Rattle.domain_tests.proofs.Gathering.{entered_stands, few_at, filtered_among, nowhere}
use Rattle.domain_tests.proofs.reporting.add_report.Goals as goal

pub place_in-requires : goal.place_in-requires
place_in-requires g c =
    let w = c.args.world.now in
    rw c.scheduled.ensures.ids (few_at g.A.Actor.meaning w c.route-m.result.0 (c.managers-managers.ensures.whole (entered_stands w.phase c.requires)))

pub returns-in_default : goal.returns-in_default
returns-in_default g c =
    let w = c.args.world.now in
    let whole = c.managers-managers.ensures.whole (entered_stands w.phase c.requires) in
    let here : is_among c.scheduled.result.now c.args.id ≡ false = c.place_in.ensures.none c.in_default.is in
    let none : is_among (scheduled_at w (route_in w c.args.id)) c.args.id ≡ false = rw (c.scheduled.ensures.ids, c.route-m.ensures.home) at here in
    rw (nowhere w c.args.id whole.scheduled.live none) (sym (append-nil c.args.reports.now.items))

pub returns : goal.returns
returns g c =
    let w = c.args.world.now in
    let m = c.route-m.result.0 in
    let within : c.in-Some.i < length (scheduled_at w m) = rw c.scheduled.ensures.ids at c.in-Some.ensures.within in
    let there : get_or (scheduled_at w m) c.in-Some.i (record { 0 = 0 }) ≡ c.args.id = rw c.scheduled.ensures.ids at c.in-Some.ensures.there in
    let among : is_among w.one.scheduled c.args.id ≡ true = filtered_among
    (λ id. nat_eq (home_of w.placed.homes id) m) w.one.scheduled c.args.id c.in-Some.i (record { 0 = 0 }) within there in
    let told = rw there at c.in_ok-report_on.ensures in
    rw (among, told) c.in_ok-push.ensures.items

-- What the drives hold still flies after each act, but for issues and ends.
use Rattle.drive_model.specs.Told.{log_read}
use Rattle.std.proofs.Common.{◌≡◌, ◌≢◌, ◌∙◌, ℕ, Bool, true, false, ◌==◌, List, [], ◌∷◌, Option, None, Some, ◌⊎◌, inl, inr, suc, zero, replicate, map, slice_get, slice_set, refl, sym, ap, subst, if◌then◌else◌}
use Rattle.std.specs.Prelude.{slice_index_or}
use Rattle.ata_base.specs.declared.issue_no.IssueNo.{IssueNo}
use Rattle.ata_base.specs.declared.err_mask.ErrMask.{ErrMask}
use Rattle.ata_base.specs.declared.ms.Ms.{Ms}
use Rattle.ata_script.specs.declared.port_head.PortHead.{PortHead}
use Rattle.ata_trace.specs.Event.{Event}
use Rattle.ata_trace.specs.Event.Event.{Told}
use Rattle.ata_trace.specs.declared.act.Act.{Act}
use Rattle.ata_trace.specs.declared.act.Act.TheVariants.{Condemned, Expired, AnsweredOk, ResetBegun, Unplugged, Plugged, Injected, Hot, Recorded, Autopsied, IdentAsked}
use Rattle.ata_base.specs.declared.speed_action.SpeedAction.{SpeedAction}
use Rattle.ata_base.specs.declared.speed_action.SpeedAction.TheVariants.{Speed}
use Rattle.drive_model.specs.Log.{after_asking}
use Rattle.drive_model.specs.FreshAndReset.{emptied, reset_at}
use Rattle.drive_model.specs.View.{DriveView}
use Rattle.drive_model.specs.declared.queued_error.QueuedError.{QueuedError}
use Rattle.host_tags.specs.Numbers.{is_issue}
use Rattle.host_tags.specs.Slots.{flight_at, lowest_free, is_flight_at}
use Rattle.host_tags.specs.declared.in_flight.InFlight.{InFlight}
use Rattle.link_model.specs.LinkView.{LinkView, empty_link, linked_drive, with_plugged, after_reset}
use Rattle.port_past.specs.Causes.{tferr}
use Rattle.port_past.specs.Clock.{clock}
use Rattle.port_past.specs.Commands.{commands}
use Rattle.port_past.specs.Drives.{drives, with_fault}
use Rattle.drive_model.specs.declared.log_told.LogTold.{LogTold}
use Rattle.drive_model.specs.declared.log_told.LogTold.TheVariants.{Page, BadPage, NoPage}
use Rattle.port_past.specs.Completions.{completions}
use Rattle.port_past.specs.Links.{links, link_at, plugged_at, linked_at, faulted, limited, serror_read}
use Rattle.port_past.specs.Places.{changed_at, changed_at_some}
use Rattle.port_past.specs.Slots.{slots}
use Rattle.port_past.specs.Steps.{last_step}
use Rattle.eh_autopsy.specs.declared.failed_issue.FailedIssue.{FailedIssue}
use Rattle.port_stands.proofs.Blocks.{flight_step}
use Rattle.port_stands.proofs.Driven.{some_one, get_changed_if, read_change, read_cleared, linked_plugged, IsLess, IsStaying, driven_lessens, ended_stays, lessens_slots, lessens_views}
use Rattle.port_stands.proofs.Marks.{same_self, still_same, stays, is_no_leave}
use Rattle.port_stands.proofs.Within.{read_put, read_same}
use Rattle.port_stands.specs.Driven.{end_at, AreDriven}
use Rattle.port_stands.specs.Handled.{IsIdle}
use Rattle.port_stands.specs.Words.{slot_after, is_no_issue}
use Rattle.port_stands.proofs.DrivenKeeps.{keeps_link, faulted_plugged, step_keeps, keeps_view, read_map}

module _ (head : PortHead) (p : List Event) (was : AreDriven head p) where
  same_view : (d : ℕ) (v : DriveView) → slice_get (drives head p) d ≡ Some v
      → (w : DriveView) × ((slice_get (drives head p) d ≡ Some w) × ((v.held ≡ w.held) × (v.stopped ≡ w.stopped)))
  same_view d v is = (v, (is, (refl, refl)))

  -- ---- what changes links or drives, but for what is plugged, linked and held

  pub driven_injected : (place : ℕ) → AreDriven head (Told (Injected place) ∷ p)
  driven_injected place =
      let g : LinkView → LinkView = faulted (last_step p) in
      let keeps = keeps_link g (λ l. (faulted_plugged (last_step p) l).0) (λ l. (faulted_plugged (last_step p) l).1) (links head p) place in
      driven_lessens head p (Told (Injected place) ∷ p) was
      (lessens_views head p (Told (Injected place) ∷ p) was refl refl refl (λ x. (keeps x).0) (λ x. (keeps x).1)
      (keeps_view (with_fault (last_step p)) (step_keeps (last_step p)) (drives head p) (plugged_at (links head p) place)))

  pub driven_hot : (place generation : ℕ) → AreDriven head (Told (Hot place generation) ∷ p)
  driven_hot place generation =
      let keeps = keeps_link (limited generation) (λ l. refl) (λ l. refl) (links head p) place in
      driven_lessens head p (Told (Hot place generation) ∷ p) was
      (lessens_views head p (Told (Hot place generation) ∷ p) was refl refl refl (λ x. (keeps x).0) (λ x. (keeps x).1) same_view)

  pub driven_recorded :
      (place : ℕ) (io dubious : Bool) (kinds : ErrMask) (ncq_off speed_down pio keep : Bool) (action : SpeedAction)
      → AreDriven head (Told (Recorded place io dubious kinds ncq_off speed_down pio keep action) ∷ p)
  driven_recorded place io dubious kinds ncq_off speed_down pio keep (Speed generation) =
      let keeps = keeps_link (limited generation) (λ l. refl) (λ l. refl) (links head p) place in
      let q : List Event = Told (Recorded place io dubious kinds ncq_off speed_down pio keep (Speed generation)) ∷ p in
      driven_lessens head p q was
      (lessens_views head p q was refl refl refl (λ x. (keeps x).0) (λ x. (keeps x).1) same_view)
  driven_recorded place io dubious kinds ncq_off speed_down pio keep action =
      let q : List Event = Told (Recorded place io dubious kinds ncq_off speed_down pio keep action) ∷ p in
      driven_lessens head p q was
      (lessens_views head p q was refl refl refl (λ x. refl) (λ x. refl) same_view)

  pub driven_autopsied : AreDriven head (Told Autopsied ∷ p)
  driven_autopsied =
      driven_lessens head p (Told Autopsied ∷ p) was
      (lessens_views head p (Told Autopsied ∷ p) was refl refl refl plugs linked same_view)
    where
      plugs : (x : ℕ) → plugged_at (map serror_read (links head p)) x ≡ plugged_at (links head p) x
      plugs x = elim (read_map serror_read (links head p) x) [
        | inl e ↦ ap (λ (l : LinkView). l.plugged) e
        | inr e ↦ ap (λ (l : LinkView). l.plugged) e
      ]

      linked : (x : ℕ) → linked_at (map serror_read (links head p)) x ≡ linked_at (links head p) x
      linked x = elim (read_map serror_read (links head p) x) [
        | inl e ↦ ap linked_drive e
        | inr e ↦ ap linked_drive e
      ]

  pub driven_asked : (place attempt : ℕ) (deadline : Ms) → AreDriven head (Told (IdentAsked place attempt deadline) ∷ p)
  driven_asked place attempt deadline =
      driven_lessens head p (Told (IdentAsked place attempt deadline) ∷ p) was
      (lessens_views head p (Told (IdentAsked place attempt deadline) ∷ p) was refl refl refl (λ x. refl) (λ x. refl)
      (keeps_view after_asking (λ v. (refl, refl)) (drives head p) (linked_at (links head p) place)))

  -- ---- marks

  staying_mark :
      (act : Act) → is_no_issue act ≡ true → is_no_leave act ≡ true → completions head (Told act ∷ p) ≡ completions head p
      → (tag : ℕ) (f : InFlight) → flight_at (slots p) tag ≡ Some f → end_at (completions head p) tag ≡ None → IsStaying head (Told act ∷ p) tag f
  staying_mark act issue leave same tag f here none =
      let s = stays (act ∷ []) f (rw leave refl) in
      record {
        flight = s.0;
        here = flight_step act (commands p) (slots p) tag issue ∙ ap (slot_after act) here ∙ s.1;
        same = still_same (act ∷ []) f s.0 s.1;
        unended = ap (λ e. end_at e tag) same ∙ none;
      }

  pub driven_condemned : (number : IssueNo) (kinds : ErrMask) → AreDriven head (Told (Condemned number kinds) ∷ p)
  driven_condemned number kinds =
      driven_lessens head p (Told (Condemned number kinds) ∷ p) was
      (lessens_slots head p (Told (Condemned number kinds) ∷ p) was refl refl refl (staying_mark (Condemned number kinds) refl refl refl))

  pub driven_expired : (id : ℕ) (number : IssueNo) → AreDriven head (Told (Expired id number) ∷ p)
  driven_expired id number =
      driven_lessens head p (Told (Expired id number) ∷ p) was
      (lessens_slots head p (Told (Expired id number) ∷ p) was refl refl refl (staying_mark (Expired id number) refl refl refl))

  -- ---- answers

  other_left : (b : Bool) (f : InFlight) → b ≡ false → (if b then None else Some f) ≡ Some f
  other_left true f e = absurd (cc)
  other_left false f e = refl

  -- a completed issue leaves
  pub driven_answered :
      (id : ℕ) (number : IssueNo) (status error lba count : ℕ) (stamps : List ℕ)
      → ((tag : ℕ) (f : InFlight) → flight_at (slots p) tag ≡ Some f → end_at (completions head p) tag ≡ None → (f.number.n == number.n) ≡ false)
      → AreDriven head (Told (AnsweredOk id number status error lba count stamps) ∷ p)
  driven_answered id number status error lba count stamps other =
      let act : Act = AnsweredOk id number status error lba count stamps in
      driven_lessens head p (Told act ∷ p) was
      (lessens_slots head p (Told act ∷ p) was refl refl refl
      (λ tag f here none. record {
        flight = f;
        here = flight_step act (commands p) (slots p) tag refl ∙ ap (slot_after act) here ∙ other_left (f.number.n == number.n) f (other tag f here none);
        same = same_self f;
        unended = ended_stays (is_issue number.n) (slots p) (completions head p) tag none;
      }))

  -- ---- resets and plugs

  unlinked_apart : (x place d : ℕ) → (plugged_at (links head p) place ≡ Some d → ⊥) → linked_at (links head p) x ≡ Some d → x ≡ place → ⊥
  unlinked_apart x place d other linked same =
      other (subst (λ y. plugged_at (links head p) y ≡ Some d) same (linked_plugged (link_at (links head p) x) d linked))

  -- a link that is changed at another place
  link_apart :
      (g : LinkView → LinkView) (place x d : ℕ) → (x ≡ place → ⊥) → linked_at (changed_at place g (links head p)) x ≡ linked_at (links head p) x
  link_apart g place x d apart =
      elim (read_change (links head p) place x g empty_link) [
        | inl here ↦ absurd (apart here.0)
        | inr there ↦ ap linked_drive there.0
      ]

  empties :
      (g : DriveView → DriveView) → ((v : DriveView) → IsIdle (g v)) → (at : Option ℕ) (d : ℕ) (v : DriveView)
      → slice_get (changed_at_some at g (drives head p)) d ≡ Some v
      → IsLess head p d v × (((at ≡ Some d) × IsIdle v) ⊎ ((at ≢ Some d) × (slice_get (drives head p) d ≡ Some v)))
  empties g idle at d v is =
      let w = get_changed_if (drives head p) at g d v is in
      elim w.now [
        | inl here ↦ (
          record {
            view = w.x;
            was = w.was;
            held = inr (ap (λ (y : DriveView). y.held) here.1 ∙ (idle w.x).holds);
            stopped = λ e by. absurd (cc (ap (λ (y : DriveView). y.stopped) here.1, (idle w.x).stopped, by));
          },
          inl (here.0, subst IsIdle (sym here.1) (idle w.x)),
        )
        | inr other ↦ (
          record {
            view = w.x;
            was = w.was;
            held = inl (ap (λ (y : DriveView). y.held) other.1);
            stopped = λ e by. ap (λ (y : DriveView). y.stopped) (sym other.1) ∙ by;
          },
          inr (other.0, w.was ∙ ap Some (sym other.1)),
        )
      ]

  cleared_apart : (place x : ℕ) (failure : FailedIssue) → slice_index_or (slice_set (tferr p) place None) x None ≡ Some failure → (x ≡ place → ⊥) × (slice_index_or (tferr p) x None ≡ Some failure)
  cleared_apart place x failure is = (
    λ same. cc (subst (λ y. slice_index_or (slice_set (tferr p) place None) y None ≡ Some failure) same is, read_cleared (tferr p) place None),
    elim (read_put (tferr p) place x None None) [
      | inl here ↦ absurd (cc (here.1, is))
      | inr there ↦ sym there ∙ is
    ],
  )

  staying_same :
      (q : List Event) → slots q ≡ slots p → ((tag : ℕ) → end_at (completions head p) tag ≡ None → end_at (completions head q) tag ≡ None)
      → (tag : ℕ) (f : InFlight) → flight_at (slots p) tag ≡ Some f → end_at (completions head p) tag ≡ None → IsStaying head q tag f
  staying_same q s e tag f here none = record { flight = f; here = ap (λ x. flight_at x tag) s ∙ here; same = same_self f; unended = e tag none }

  pub driven_reset : (place attempt : ℕ) (deadline : Ms) → AreDriven head (Told (ResetBegun (Some place) attempt deadline) ∷ p)
  driven_reset place attempt deadline =
      let q : List Event = Told (ResetBegun (Some place) attempt deadline) ∷ p in
      let at : Option ℕ = plugged_at (links head p) place in
      let g : DriveView → DriveView = reset_at (record { n = clock p }) in
      let stay = staying_same q refl (λ tag none. ended_stays (is_flight_at place) (slots p) (completions head p) tag none) in
      driven_lessens head p q was (record {
        plugged = λ x y d at_x at_y. was.plugged x y d (sym (plugs x) ∙ at_x) (sym (plugs y) ∙ at_y);
        views = λ d v is. (empties g (λ v. record { holds = refl; stopped = refl }) at d v is).0;
        flies = λ d v is. elim (empties g (λ v. record { holds = refl; stopped = refl }) at d v is).1 [
          | inl here ↦ inl here.1
          | inr other ↦ inr (λ tag f flies. (
            link_apart after_reset place f.place d (unlinked_apart f.place place d other.0 flies.linked) ∙ flies.linked,
            stay tag f flies.here flies.unended,
          ))
        ];
        struck = λ x failure is. (cleared_apart place x failure is).1;
        stays = λ x failure is tag f here none. stay tag f here none;
        stops = λ x failure is d v linked at_d.
            let apart = (cleared_apart place x failure is).0 in
            let old : linked_at (links head p) x ≡ Some d = sym (link_apart after_reset place x d apart) ∙ linked in
            elim (empties g (λ v. record { holds = refl; stopped = refl }) at d v at_d).1 [
              | inl here ↦ absurd (apart (was.plugged x place d (linked_plugged (link_at (links head p) x) d old) here.0))
              | inr other ↦ (old, (v, (other.1, λ none. none)))
            ];
      })
    where
      plugs : (x : ℕ) → plugged_at (changed_at place after_reset (links head p)) x ≡ plugged_at (links head p) x
      plugs x = elim (read_change (links head p) place x after_reset empty_link) [
        | inl here ↦ ap (λ (l : LinkView). l.plugged) here.1
        | inr there ↦ ap (λ (l : LinkView). l.plugged) there.0
      ]

  pub driven_host_reset : (attempt : ℕ) (deadline : Ms) → AreDriven head (Told (ResetBegun None attempt deadline) ∷ p)
  driven_host_reset attempt deadline =
      let q : List Event = Told (ResetBegun None attempt deadline) ∷ p in
      let stay = staying_same q refl (λ tag none. none_ended 32 tag) in
      driven_lessens head p q was (record {
        plugged = was.plugged;
        views = λ d v is. record { view = v; was = is; held = inl refl; stopped = λ e by. by };
        flies = λ d v is. inr (λ tag f flies. (flies.linked, stay tag f flies.here flies.unended));
        struck = λ x failure is. absurd (cc (is, read_same {A = Option FailedIssue} 15 x None));
        stays = λ x failure is tag f here none. stay tag f here none;
        stops = λ x failure is d v linked at. (linked, (v, (at, λ none. none)));
      })
    where
      none_ended : (n tag : ℕ) → end_at (replicate n None) tag ≡ None
      none_ended zero tag = refl
      none_ended (suc n) zero = refl
      none_ended (suc n) (suc tag) = none_ended n tag

  pub driven_unplugged : (place : ℕ) → AreDriven head (Told (Unplugged place) ∷ p)
  driven_unplugged place =
      let q : List Event = Told (Unplugged place) ∷ p in
      let at : Option ℕ = plugged_at (links head p) place in
      let stay = staying_same q refl (λ tag none. none) in
      driven_lessens head p q was (record {
        plugged = λ x y d at_x at_y. was.plugged x y d (plugs x d at_x) (plugs y d at_y);
        views = λ d v is. (empties emptied (λ v. record { holds = refl; stopped = refl }) at d v is).0;
        flies = λ d v is. elim (empties emptied (λ v. record { holds = refl; stopped = refl }) at d v is).1 [
          | inl here ↦ inl here.1
          | inr other ↦ inr (λ tag f flies. (
            link_apart (with_plugged None) place f.place d (unlinked_apart f.place place d other.0 flies.linked) ∙ flies.linked,
            stay tag f flies.here flies.unended,
          ))
        ];
        struck = λ x failure is. is;
        stays = λ x failure is tag f here none. stay tag f here none;
        stops = λ x failure is d v linked at_d.
            elim (read_change (links head p) place x (with_plugged None) empty_link) [
              | inl here ↦ absurd (cc (ap linked_drive here.1, linked))
              | inr there ↦
                  let old : linked_at (links head p) x ≡ Some d = sym (ap linked_drive there.0) ∙ linked in
                  elim (empties emptied (λ v. record { holds = refl; stopped = refl }) at d v at_d).1 [
                    | inl here ↦
                        let same : x ≡ place = was.plugged x place d (linked_plugged (link_at (links head p) x) d old) here.0 in
                        absurd (cc (ap linked_drive (there.1 same), old))
                    | inr other ↦ (old, (v, (other.1, λ none. none)))
                  ]
            ];
      })
    where
      plugs : (x d : ℕ) → plugged_at (changed_at place (with_plugged None) (links head p)) x ≡ Some d → plugged_at (links head p) x ≡ Some d
      plugs x d is = elim (read_change (links head p) place x (with_plugged None) empty_link) [
        | inl here ↦ absurd (cc (ap (λ (l : LinkView). l.plugged) here.1, is))
        | inr there ↦ sym (ap (λ (l : LinkView). l.plugged) there.0) ∙ is
      ]

  -- a drive that is plugged nowhere is plugged at an empty place
  pub driven_plugged :
      (place drive : ℕ) → plugged_at (links head p) place ≡ None → ((x : ℕ) → plugged_at (links head p) x ≢ Some drive)
      → AreDriven head (Told (Plugged place drive) ∷ p)
  driven_plugged place drive empty spare =
      let q : List Event = Told (Plugged place drive) ∷ p in
      let stay = staying_same q refl (λ tag none. none) in
      driven_lessens head p q was (record {
        plugged = λ x y d at_x at_y. elim (plugs x d at_x) [
          | inl a ↦ elim (plugs y d at_y) [
            | inl b ↦ a.0 ∙ sym b.0
            | inr b ↦ absurd (spare y (b ∙ ap Some a.1))
          ]
          | inr a ↦ elim (plugs y d at_y) [
            | inl b ↦ absurd (spare x (a ∙ ap Some b.1))
            | inr b ↦ was.plugged x y d a b
          ]
        ];
        views = λ d v is. record { view = v; was = is; held = inl refl; stopped = λ e by. by };
        flies = λ d v is. inr (λ tag f flies. (
          link_apart (with_plugged (Some drive)) place f.place d
              (λ same. cc (subst (λ y. plugged_at (links head p) y ≡ Some d) same (linked_plugged (link_at (links head p) f.place) d flies.linked), empty))
              ∙ flies.linked,
          stay tag f flies.here flies.unended,
        ));
        struck = λ x failure is. is;
        stays = λ x failure is tag f here none. stay tag f here none;
        stops = λ x failure is d v linked at_d.
            elim (read_change (links head p) place x (with_plugged (Some drive)) empty_link) [
              | inl here ↦ absurd (cc (ap linked_drive here.1, linked))
              | inr there ↦ (sym (ap linked_drive there.0) ∙ linked, (v, (at_d, λ none. none)))
            ];
      })
    where
      plugs : (x d : ℕ) → plugged_at (changed_at place (with_plugged (Some drive)) (links head p)) x ≡ Some d
          → ((x ≡ place) × (d ≡ drive)) ⊎ (plugged_at (links head p) x ≡ Some d)
      plugs x d is = elim (read_change (links head p) place x (with_plugged (Some drive)) empty_link) [
        | inl here ↦ inl (here.0, some_one d drive (sym is ∙ ap (λ (l : LinkView). l.plugged) here.1))
        | inr there ↦ inr (sym (ap (λ (l : LinkView). l.plugged) there.0) ∙ is)
      ]

  -- ---- logs

  log_less : (idle : Option ℕ) (told : LogTold) (v : DriveView) → (((log_read idle told v).held ≡ v.held) ⊎ ((log_read idle told v).held ≡ [])) × ((e : QueuedError) → (log_read idle told v).stopped ≡ Some e → v.stopped ≡ Some e)
  log_less idle NoPage v = (inl refl, λ e by. by)
  log_less idle BadPage v = (inr refl, λ e by. absurd (cc))
  log_less idle (Page tag regs) v = (inr refl, λ e by. absurd (cc))

  less_held : (v w u : DriveView) → v ≡ u → ((u.held ≡ w.held) ⊎ (u.held ≡ [])) → (v.held ≡ w.held) ⊎ (v.held ≡ [])
  less_held v w u same (inl e) = inl (ap (λ (y : DriveView). y.held) same ∙ e)
  less_held v w u same (inr e) = inr (ap (λ (y : DriveView). y.held) same ∙ e)

  -- a log of a place is read, of which no TFERR stands
  pub driven_log :
      (q : List Event) (place : ℕ) (told : LogTold) → links head q ≡ links head p → slots q ≡ slots p → completions head q ≡ completions head p → tferr q ≡ tferr p
      → drives head q ≡ changed_at_some (linked_at (links head p) place) (log_read (lowest_free (slots p)) told) (drives head p)
      → slice_index_or (tferr p) place None ≡ None → AreDriven head q
  driven_log q place told l s e f ds clear =
      let at : Option ℕ = linked_at (links head p) place in
      let g : DriveView → DriveView = log_read (lowest_free (slots p)) told in
      let stay = staying_same q s (λ tag none. ap (λ x. end_at x tag) e ∙ none) in
      driven_lessens head p q was (record {
        plugged = λ x y d at_x at_y. was.plugged x y d (ap (λ ls. plugged_at ls x) (sym l) ∙ at_x) (ap (λ ls. plugged_at ls y) (sym l) ∙ at_y);
        views = λ d v is.
            let w = get_changed_if (drives head p) at g d v (ap (λ x. slice_get x d) (sym ds) ∙ is) in
            elim w.now [
              | inl here ↦ record {
                view = w.x;
                was = w.was;
                held = less_held v w.x (log_read (lowest_free (slots p)) told w.x) here.1 (log_less (lowest_free (slots p)) told w.x).0;
                stopped = λ by is_by. (log_less (lowest_free (slots p)) told w.x).1 by (ap (λ (y : DriveView). y.stopped) (sym here.1) ∙ is_by);
              }
              | inr other ↦ record {
                view = w.x;
                was = w.was;
                held = inl (ap (λ (y : DriveView). y.held) other.1);
                stopped = λ by is_by. ap (λ (y : DriveView). y.stopped) (sym other.1) ∙ is_by;
              }
            ];
        flies = λ d v is. inr (λ tag x flies. (ap (λ ls. linked_at ls x.place) l ∙ flies.linked, stay tag x flies.here flies.unended));
        struck = λ x failure is. ap (λ fs. slice_index_or fs x None) (sym f) ∙ is;
        stays = λ x failure is tag y here none. stay tag y here none;
        stops = λ x failure is d v linked at_d.
            let old : linked_at (links head p) x ≡ Some d = ap (λ ls. linked_at ls x) (sym l) ∙ linked in
            let w = get_changed_if (drives head p) at g d v (ap (λ y. slice_get y d) (sym ds) ∙ at_d) in
            elim w.now [
              | inl here ↦
                  let same : x ≡ place =
                  was.plugged x place d (linked_plugged (link_at (links head p) x) d old) (linked_plugged (link_at (links head p) place) d here.0) in
                  absurd (cc (subst (λ y. slice_index_or (tferr p) y None ≡ Some failure) same (ap (λ fs. slice_index_or fs x None) (sym f) ∙ is), clear))
              | inr other ↦ (old, (w.x, (w.was, λ none. ap (λ (y : DriveView). y.stopped) (sym other.1) ∙ none)))
            ];
      })

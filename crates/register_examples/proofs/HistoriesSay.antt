-- What the theorems say of lists in hand. Assumes nothing.
use Prim.Native.Nat.{ℕ, ◌%◌, ◌^◌}
use mathlib.Core.Path.{◌≡◌, refl, sym, ap, subst, ◌∙◌}
use mathlib.Core.Bool.{Bool, false, cond}
use mathlib.Core.List.{List, [], ◌∷◌, ◌++◌}
use native.Mathlib.Omega.{arith}
use lib.Dec.{ltb}
use Rattle.lists.specs.Turns.{all_to, sum_to, list_to, iterate}
use Rattle.octets.specs.Numbers.{two_of, four_of}
use Rattle.stream.specs.declared.Reply.{Reply}
use Rattle.stream.specs.Steps.{attempt, arrive_of, tick_of}
use Rattle.queue.specs.Place.{frame_at, with_frame}
use Rattle.queue.specs.Ring.{joined_memory, front_of}
use Rattle.queue.specs.Waiting.{waiting}
use Rattle.record.specs.Layout.{stream_count}
use Rattle.record.specs.Queues.{queues_at}
use Rattle.record.specs.Head.{open_at, with_open, prior_at, with_prior, delay_at, with_delay, link_at, with_link, waits_at, with_waits, queue_at, with_queue}
use Rattle.record.specs.Entry.{stream_at, with_stream, with_place, drain_at, with_drain, drains_at, bound_at, vid_at, address_at, with_binding, dropped}
use Rattle.fitness.specs.Fit.{record_fits, lent_refusal}
use Rattle.steps.specs.Roles.{role_at}
use Rattle.opening.specs.Opening.{opened_record}
use Rattle.arriving.specs.Arriving.{arrive_step}
use Rattle.ticking.specs.Ticking.{drained_at, ticked_record, tick_step}
use Rattle.sending.specs.Sending.{transmit_step}
use Rattle.best_effort.specs.BestEffort.{best_effort_step}
use Rattle.lists.specs.Equal.{octets_equal}
use Rattle.header.specs.Header.{charge_of, length_fits, tagged_frame, vid_of}
use Rattle.binding.specs.Finding.{compared_back, compared_at, lookup_from, lookup, frame_lookup}
use Rattle.gates.specs.FrameRefusals.{bind_refusal, frame_refusal}
use Rattle.gates.specs.Refusals.{open_refusal, reserve_refusal, withdraw_refusal, arrive_refusal, closed_refusal, best_effort_refusal}
use Rattle.port.specs.Quick.{length_refusal}
use Rattle.register_block.specs.Fields.{flag_at, with_flag, without_flag, word_at, with_word}
use Rattle.register_block.specs.Events.{raised, accepted, discarded, withdrawn, zeroed}
use Rattle.register_block.specs.Shown.{flags_of, shares_one, line_up, status_of, shown_count, register_at}
use Rattle.register_block.specs.Written.{cleared_by, written_at}
use Rattle.registers.specs.Lent.{in_block, short_refusal}
use Rattle.registers.specs.Notes.{open_noted, withdraw_noted, arrival_noted, tick_noted, transmit_noted}
use Rattle.registers.specs.Calls.{registered}
use Rattle.port_laws.specs.Lists.{replies}
use Rattle.registers.specs.Accesses.{in_turn, offset_refusal, read_by, named, write_by}
use Rattle.lists.specs.Each.{All}
use Rattle.stream.specs.Replies.{granted, refused_by}
use Rattle.steps.specs.Call.{Call, reserving, withdrawing, arriving, ticking, transmitting}
use Rattle.registers.specs.Calls.{port_call}
use Rattle.register_block.specs.Layout.{mask_offset, choice_offset, discard_flag, purge_flag, nothing_flag}
use Rattle.register_laws.specs.Uses.{lent}
use Rattle.register_laws.specs.Happenings.{Happening, replied, written, happenings_in}
use Rattle.register_laws.specs.History.{Sort, beginning, acceptance_of, discard_of, discard, purge, sending, nothing_sent, is_reply, how_many, is_there, since, last_from, clears, Reads}
use Rattle.register_laws.specs.Controls.{named_in}
use Rattle.register_laws.specs.Cases.{control_uses}
use Rattle.register_laws.specs.Says.{Opens, list_of, cleared_uses, withdrawn_uses, HistoriesSay}
use Rattle.register_laws.proofs.Histories.{discard_flags, purge_flags, nothing_flags}
use Rattle.register_laws.proofs.SinceLaws.{since_last}
use Rattle.register_laws.proofs.ReadLaws.{reads_tell, counts_tell}
use Rattle.register_laws.proofs.ControlLaws.{control_named, controls_named}
use Rattle.register_laws.proofs.QuickRegisters.{quick_list_lem}
use Rattle.register_block.proofs.LineLaws.{line_exactly}
use Rattle.lists.proofs.EachLaws.{some_not_none}

pub it_opens : Opens control_uses
unfolding all_to sum_to list_to iterate two_of four_of attempt arrive_of tick_of frame_at with_frame joined_memory front_of waiting open_at with_open prior_at with_prior delay_at with_delay link_at with_link waits_at with_waits queue_at queues_at with_queue stream_at with_stream with_place drain_at with_drain drains_at bound_at vid_at dropped record_fits lent_refusal role_at opened_record arrive_step drained_at ticked_record tick_step transmit_step best_effort_step open_refusal reserve_refusal arrive_refusal closed_refusal best_effort_refusal registered short_refusal in_block open_noted octets_equal address_at with_binding charge_of length_fits tagged_frame vid_of compared_back compared_at lookup_from lookup frame_lookup bind_refusal frame_refusal withdraw_refusal withdraw_noted arrival_noted accepted discarded withdrawn shown_count tick_noted transmit_noted offset_refusal read_by named write_by flag_at with_flag without_flag word_at with_word raised zeroed flags_of shares_one line_up status_of register_at cleared_by written_at length_refusal
it_opens = refl

-- what happens in the list
abbrev pub happened : List Happening
happened =
    replied (reserving 5 200) (granted 400 0)
    ∷ written 12 5
    ∷ written 28 5
    ∷ replied (arriving 5 200 1) (granted 1 200)
    ∷ replied (arriving 5 200 2) (granted 2 200)
    ∷ replied (arriving 5 200 3) (granted 3 0)
    ∷ replied (arriving 5 84 4) (refused_by 14)
    ∷ replied ticking (granted 0 0)
    ∷ replied transmitting (granted 5 1)
    ∷ replied ticking (granted 0 0)
    ∷ replied ticking (granted 1 200)
    ∷ replied transmitting (granted 5 3)
    ∷ replied transmitting (granted 254 0)
    ∷ []

pub it_happens : happenings_in (list_of control_uses it_opens) ≡ happened
unfolding all_to sum_to list_to iterate two_of four_of attempt arrive_of tick_of frame_at with_frame joined_memory front_of waiting open_at with_open prior_at with_prior delay_at with_delay link_at with_link waits_at with_waits queue_at queues_at with_queue stream_at with_stream with_place drain_at with_drain drains_at bound_at vid_at dropped record_fits lent_refusal role_at opened_record arrive_step drained_at ticked_record tick_step transmit_step best_effort_step open_refusal reserve_refusal arrive_refusal closed_refusal best_effort_refusal registered short_refusal in_block open_noted octets_equal address_at with_binding charge_of length_fits tagged_frame vid_of compared_back compared_at lookup_from lookup frame_lookup bind_refusal frame_refusal withdraw_refusal withdraw_noted arrival_noted accepted discarded withdrawn shown_count tick_noted transmit_noted offset_refusal read_by named write_by flag_at with_flag without_flag word_at with_word raised zeroed flags_of shares_one line_up status_of register_at cleared_by written_at length_refusal
it_happens = refl

pub it_clears : happenings_in (list_of cleared_uses it_opens) ≡ happened ++ (written 8 1 ∷ [])
unfolding all_to sum_to list_to iterate two_of four_of attempt arrive_of tick_of frame_at with_frame joined_memory front_of waiting open_at with_open prior_at with_prior delay_at with_delay link_at with_link waits_at with_waits queue_at queues_at with_queue stream_at with_stream with_place drain_at with_drain drains_at bound_at vid_at dropped record_fits lent_refusal role_at opened_record arrive_step drained_at ticked_record tick_step transmit_step best_effort_step open_refusal reserve_refusal arrive_refusal closed_refusal best_effort_refusal registered short_refusal in_block open_noted octets_equal address_at with_binding charge_of length_fits tagged_frame vid_of compared_back compared_at lookup_from lookup frame_lookup bind_refusal frame_refusal withdraw_refusal withdraw_noted arrival_noted accepted discarded withdrawn shown_count tick_noted transmit_noted offset_refusal read_by named write_by flag_at with_flag without_flag word_at with_word raised zeroed flags_of shares_one line_up status_of register_at cleared_by written_at length_refusal
it_clears = refl

pub it_withdraws : happenings_in (list_of withdrawn_uses it_opens) ≡ happened ++ (replied (withdrawing 5) (granted 0 0) ∷ [])
unfolding all_to sum_to list_to iterate two_of four_of attempt arrive_of tick_of frame_at with_frame joined_memory front_of waiting open_at with_open prior_at with_prior delay_at with_delay link_at with_link waits_at with_waits queue_at queues_at with_queue stream_at with_stream with_place drain_at with_drain drains_at bound_at vid_at dropped record_fits lent_refusal role_at opened_record arrive_step drained_at ticked_record tick_step transmit_step best_effort_step open_refusal reserve_refusal arrive_refusal closed_refusal best_effort_refusal registered short_refusal in_block open_noted octets_equal address_at with_binding charge_of length_fits tagged_frame vid_of compared_back compared_at lookup_from lookup frame_lookup bind_refusal frame_refusal withdraw_refusal withdraw_noted arrival_noted accepted discarded withdrawn shown_count tick_noted transmit_noted offset_refusal read_by named write_by flag_at with_flag without_flag word_at with_word raised zeroed flags_of shares_one line_up status_of register_at cleared_by written_at length_refusal
it_withdraws = refl

-- no flag of this number is cleared in it
uncleared : (flag : ℕ) → All (λ h. clears flag h ≡ false) happened
uncleared flag = (refl, (refl, (refl, (refl, (refl, (refl, (refl, (refl, (refl, (refl, (refl, (refl, (refl, tt)))))))))))))

-- a stream's counts of such happenings, both of them, and one of the stream that they choose
abbrev count_of : (ℕ → Sort → Reply → Bool) → ℕ → List Happening → ℕ
count_of test s hs = how_many (is_reply (test s)) (since (is_reply (beginning s)) hs) % 2 ^ 32

abbrev both_of : ℕ → List Happening → Reply
both_of s hs = granted (count_of acceptance_of s hs) (count_of discard_of s hs)

abbrev chosen_of : (ℕ → Sort → Reply → Bool) → List Happening → ℕ
chosen_of test hs = cond (ltb (last_from choice_offset 0 hs) stream_count) (count_of test (last_from choice_offset 0 hs) hs) 0

-- what the number 3 names, and what 3 and 1 do
named_both : named 3 ≡ ticking ∷ transmitting ∷ []
unfolding named
named_both = refl

named_three : named_in (3 ∷ 1 ∷ []) ≡ ticking ∷ transmitting ∷ ticking ∷ []
unfolding named
named_three = refl

pub histories_say : HistoriesSay
histories_say =
    let l = list_of control_uses it_opens in
    let cleared = list_of cleared_uses it_opens in
    let tell = reads_tell l in
    let none : (flag : ℕ) → All (λ h. clears flag h ≡ false) (happenings_in l) = λ flag. subst (All (λ h. clears flag h ≡ false)) (sym it_happens) (uncleared flag) in
    record {
      opens = it_opens;
      accepted = subst (λ (hs : List Happening). Reads l 16 (chosen_of acceptance_of hs)) it_happens tell.accepted;
      discarded = subst (λ (hs : List Happening). Reads l 20 (chosen_of discard_of hs)) it_happens tell.discarded;
      choice = subst (λ (hs : List Happening). Reads l 28 (last_from choice_offset 0 hs)) it_happens tell.choice;
      counted = counts_tell l 5 (omega arith) ∙ ap (both_of 5) it_happens;
      other_counted = counts_tell l 6 (omega arith) ∙ ap (both_of 6) it_happens;
      withdrawn_counted = counts_tell (list_of withdrawn_uses it_opens) 5 (omega arith) ∙ ap (both_of 5) it_withdraws;
      since_withdrawal = λ before r. since_last (is_reply (beginning 5)) before (replied (arriving 5 84 1) r ∷ []) (replied (withdrawing 5) (granted 0 0)) refl (refl, tt);
      sent = subst (λ (hs : List Happening). Reads l 24 (how_many (is_reply sending) hs % 2 ^ 32)) it_happens tell.sent;
      discard_up = discard_flags.since_open l (none discard_flag) ∙ ap (is_there (is_reply discard)) it_happens;
      purge_up = purge_flags.since_open l (none purge_flag) ∙ ap (is_there (is_reply purge)) it_happens;
      nothing_up = nothing_flags.since_open l (none nothing_flag) ∙ ap (is_there (is_reply nothing_sent)) it_happens;
      discard_down = discard_flags.since_clear cleared happened [] (written 8 1) it_clears refl tt;
      purge_kept =
          purge_flags.since_open cleared (subst (All (λ h. clears purge_flag h ≡ false)) (sym it_clears) (refl, (refl, (refl, (refl, (refl, (refl, (refl, (refl, (refl, (refl, (refl, (refl, (refl, (refl, tt)))))))))))))))
          ∙ ap (is_there (is_reply purge)) it_clears;
      controls = λ p m. (controls_named (3 ∷ 1 ∷ []) p m).slice ∙ ap (λ (cs : List Call). (in_turn port_call (lent p m) cs).port) named_three;
      controls_memory = λ p m. (controls_named (3 ∷ 1 ∷ []) p m).memory ∙ ap (λ (cs : List Call). (in_turn port_call (lent p m) cs).memory) named_three;
      controls_replies = λ p m. (controls_named (3 ∷ 1 ∷ []) p m).told ∙ ap (λ (cs : List Call). replies port_call cs p m) named_three;
      both_bits = λ p m. control_named 3 p m (λ e. some_not_none ticking (transmitting ∷ []) (sym named_both ∙ e)) ∙ ap (in_turn port_call (lent p m)) named_both;
      control = tell.control;
      status = tell.status;
      flags = tell.flags;
      mask = subst (λ (hs : List Happening). Reads l 12 (last_from mask_offset 0 hs)) it_happens tell.mask;
      line_up_lem = λ b flag mask. (line_exactly b).then_up (record { bit = 2; first = flag; second = mask });
      line_shows = λ b up. (line_exactly b).only_then up;
      quickly = λ p m fit. quick_list_lem control_uses (lent p m) fit;
    }

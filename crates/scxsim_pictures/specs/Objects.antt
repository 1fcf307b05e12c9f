-- The text of an object of a timeline. Its times are in microseconds, and it begins with the comma
-- and the line feed after the object before it.
use Rattle.std.specs.Prelude.{ℕ, ◌*◌, ◌-◌, ◌^◌, min, List, [], ◌++◌, codes, decimal, Option, None, Some}
use Rattle.std.specs.Fmt.{signed_decimal}
use Rattle.scxsim_trace.specs.Lines.{NameLists, task_name, group_name, queue_text}
use Rattle.scxsim_pictures.specs.declared.objects.Bar.{Bar}
use Rattle.scxsim_pictures.specs.declared.objects.Object.{Object}
use Rattle.scxsim_pictures.specs.declared.objects.Object.TheVariants.{Run, Wait, Parked, Wake, Length, Weight, Stall, Fault, Exit}

-- milliseconds in microseconds, up to the greatest number
abbrev pub micros : ℕ → ℕ
micros ms = min (ms * 1000) (2 ^ 64 - 1)

-- ---- the start of an object, up to its name

-- a slice, which has a length, in a track
abbrev pub slice_start : ℕ → ℕ → Bar → List ℕ
slice_start pid tid bar =
    codes ",\n{\"ph\":\"X\",\"pid\":" ++ decimal pid ++ codes ",\"tid\":" ++ decimal tid
    ++ codes ",\"ts\":" ++ decimal (micros bar.since)
    ++ codes ",\"dur\":" ++ decimal (micros (bar.until - bar.since)) ++ codes ",\"name\":\""

-- an instant in a track of the tasks
abbrev pub instant_start : ℕ → ℕ → List ℕ
instant_start tid moment =
    codes ",\n{\"ph\":\"i\",\"pid\":" ++ decimal 2 ++ codes ",\"tid\":" ++ decimal tid
    ++ codes ",\"ts\":" ++ decimal (micros moment)

-- the wake of a task
abbrev pub wake_start : ℕ → List ℕ
wake_start moment = instant_start 0 moment ++ codes ",\"name\":\""

-- an ejection, which all tracks show, with the words for its cause
abbrev pub ejection_start : ℕ → List ℕ → List ℕ
ejection_start moment words =
    instant_start 1 moment ++ codes ",\"s\":\"g\",\"name\":\"eject " ++ words

-- a counter of a group of tracks
abbrev pub counter_start : ℕ → ℕ → List ℕ
counter_start pid moment =
    codes ",\n{\"ph\":\"C\",\"pid\":" ++ decimal pid ++ codes ",\"ts\":" ++ decimal (micros moment)
    ++ codes ",\"name\":\""

-- the start of an object, with the queue or the number that is in its name
abbrev pub start_text : Object → List ℕ
start_text (Run cpu task bar arrow) = slice_start 1 cpu bar
start_text (Wait task queue bar arrow) = slice_start 5 task bar ++ queue_text queue
start_text (Parked task bar) = slice_start 4 task bar
start_text (Wake moment task) = wake_start moment
start_text (Length count) = counter_start 3 count.moment ++ queue_text count.queue
start_text (Weight moment group weight) = counter_start 6 moment
start_text (Stall moment task) = ejection_start moment (codes "stall ")
start_text (Fault moment number) = ejection_start moment (codes "fault ") ++ decimal number
start_text (Exit moment code) = ejection_start moment (codes "exit ") ++ signed_decimal code

-- ---- the task or the group in its name

-- the name of the task or the group that an object names; empty where it names none
abbrev pub name_text : NameLists → Object → List ℕ
name_text x (Run cpu task bar arrow) = task_name x task
name_text x (Wait task queue bar arrow) = []
name_text x (Parked task bar) = task_name x task
name_text x (Wake moment task) = task_name x task
name_text x (Length count) = []
name_text x (Weight moment group weight) = group_name x group
name_text x (Stall moment task) = task_name x task
name_text x (Fault moment number) = []
name_text x (Exit moment code) = []

-- ---- its end, after the name

-- the end of a slice to which an arrow leads, or at which one begins, as the words say
abbrev pub arrow_text : Option ℕ → List ℕ → List ℕ
arrow_text None words = codes "\"}"
arrow_text (Some number) words = codes "\",\"bind_id\":\"" ++ decimal number ++ words

-- the end of an object
abbrev pub end_text : Object → List ℕ
end_text (Run cpu task bar arrow) = arrow_text arrow (codes "\",\"flow_in\":true}")
end_text (Wait task queue bar arrow) = arrow_text arrow (codes "\",\"flow_out\":true}")
end_text (Parked task bar) = codes "\"}"
end_text (Wake moment task) = codes "\"}"
end_text (Length count) = codes "\",\"args\":{\"tasks\":" ++ decimal count.tasks ++ codes "}}"
end_text (Weight moment group weight) =
    codes "\",\"args\":{\"weight\":" ++ decimal weight ++ codes "}}"
end_text (Stall moment task) = codes "\"}"
end_text (Fault moment number) = codes "\"}"
end_text (Exit moment code) = codes "\"}"

-- the text of an object, from its first byte to its last
abbrev pub object_text : NameLists → Object → List ℕ
object_text x o = start_text o ++ name_text x o ++ end_text o

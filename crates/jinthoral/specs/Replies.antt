-- What a caller is told. Assumes nothing.
use Rattle.std.specs.Prelude.{ℕ, Result, Ok, Err}
use Rattle.refusals.specs.declared.reasons.Refusal.{Refusal}
use Rattle.refusals.specs.Notices.{notice_of}
use Rattle.traces.specs.declared.headers.Label.{Label}
use Rattle.traces.specs.declared.opening.Opened.{Opened}
use Rattle.traces.specs.Headers.{label_of}
use Rattle.jinthoral.specs.declared.replies.Reply.{Reply}
use Rattle.jinthoral.specs.declared.replies.OpenedReply.{OpenedReply}

-- of a call that wrote n bytes, or was refused
abbrev pub reply_of : Result ℕ Refusal → Reply
reply_of (Ok n) = record { refusal = 0; place = 0; length = n }
reply_of (Err refusal) = record { refusal = (notice_of refusal).number; place = (notice_of refusal).place; length = 0 }

-- what a file that was opened is labelled with, or zeros
abbrev pub opened_label : Result Opened Refusal → Label
opened_label (Ok opened) = label_of opened.header
opened_label (Err refusal) = record { axis = 0; serial = 0; number = 0 }

-- how many bytes of plain an opening wrote
abbrev pub opened_length : Result Opened Refusal → Result ℕ Refusal
opened_length (Ok opened) = Ok opened.length
opened_length (Err refusal) = Err refusal

-- of an opening: how many bytes were written, or that it was refused, and the label
abbrev pub opened_reply_of : Result Opened Refusal → OpenedReply
opened_reply_of outcome = record {
  reply = reply_of (opened_length outcome);
  axis = (opened_label outcome).axis;
  serial = (opened_label outcome).serial;
  number = (opened_label outcome).number;
}
